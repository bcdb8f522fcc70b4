use Rattle.mg_defs.proofs.texts.one_order.Goals as goal
use Rattle.mg_defs.proofs.SortedLaws.{sorted-is, sorted-unique}

pub returns-clause-is : goal.returns-clause-is
returns-clause-is c = sorted-is

pub returns-clause-only : goal.returns-clause-only
returns-clause-only c = sorted-unique
