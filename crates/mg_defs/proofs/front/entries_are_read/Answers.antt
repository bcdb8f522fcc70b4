use Rattle.mg_defs.proofs.front.entries_are_read.Goals as goal
use Rattle.mg_defs.proofs.FrontLaws.{read_written, read_stands, none_exactly}

pub returns-clause-written : goal.returns-clause-written
returns-clause-written c = read_written

pub returns-clause-read : goal.returns-clause-read
returns-clause-read c = read_stands

pub returns-clause-none : goal.returns-clause-none
returns-clause-none c = none_exactly
