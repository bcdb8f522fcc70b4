use Rattle.mg_reply.proofs.ReadingLaws.{from_held, filled_none, filled_some}
use Rattle.mg_reply.proofs.input_buffer.InputBuffer.byte.Goals as goal

pub returns-then-not-is_empty-clause-took : goal.returns-then-not-is_empty-clause-took
returns-then-not-is_empty-clause-took g c = from_held _ _ _ _ c.first.ensures.is

pub returns-then-count-eq0-clause-took : goal.returns-then-count-eq0-clause-took
returns-then-count-eq0-clause-took g c =
    filled_none _ _ _ _ (c.is_empty.ensures.0 c.if-not-is_empty.false) c.in_ok-count.ensures.filled.0 (c.in_ok-count.ensures.filled.2 c.if-count-eq0.true)

pub returns-clause-took : goal.returns-clause-took
returns-clause-took g c =
    filled_some _ _ _ _ _ _ (c.is_empty.ensures.0 c.if-not-is_empty.false) c.in_ok-count.ensures.filled.0 c.first-2.ensures.is
