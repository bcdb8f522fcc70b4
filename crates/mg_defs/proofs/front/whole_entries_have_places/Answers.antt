use Rattle.mg_defs.proofs.front.whole_entries_have_places.Goals as goal
use Rattle.mg_defs.proofs.FrontParts.{whole_long, place_of_block, front_begins}

pub returns-clause-size : goal.returns-clause-size
returns-clause-size c = whole_long

pub returns-clause-place : goal.returns-clause-place
returns-clause-place c = place_of_block

pub returns-clause-begins : goal.returns-clause-begins
returns-clause-begins c = front_begins
