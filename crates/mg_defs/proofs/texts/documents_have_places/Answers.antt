use Rattle.mg_defs.proofs.texts.documents_have_places.Goals as goal
use Rattle.mg_defs.proofs.CodedTextLaws.{places-long, places-at, text-long, text-at}

pub returns-clause-count : goal.returns-clause-count
returns-clause-count c = places-long

pub returns-clause-place : goal.returns-clause-place
returns-clause-place c = places-at

pub returns-clause-size : goal.returns-clause-size
returns-clause-size c = text-long

pub returns-clause-bytes : goal.returns-clause-bytes
returns-clause-bytes c = text-at
