use Rattle.mg_defs.proofs.texts.closed_and_open.Goals as goal
use Rattle.mg_defs.proofs.ClosedLaws.{documents-are, end-is, closed-long}

pub returns-clause-whole : goal.returns-clause-whole
returns-clause-whole c = documents-are

pub returns-clause-end : goal.returns-clause-end
returns-clause-end c = end-is

pub returns-clause-count : goal.returns-clause-count
returns-clause-count c = closed-long
