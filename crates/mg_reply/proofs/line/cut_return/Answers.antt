use Rattle.mg_reply.proofs.ReadingLaws.{cut_same, cut_other}
use Rattle.mg_reply.proofs.line.cut_return.Goals as goal

pub returns-then-last-eq13 : goal.returns-then-last-eq13
returns-then-last-eq13 c = cut_same _ _ _ c.in-Some.ensures.cases.0 c.if-last-eq13.true

pub returns-else-last-eq13 : goal.returns-else-last-eq13
returns-else-last-eq13 c = cut_other _ _ _ c.in-Some.ensures.cases.0 c.if-last-eq13.false
