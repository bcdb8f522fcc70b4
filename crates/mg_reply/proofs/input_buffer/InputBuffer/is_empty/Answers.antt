use Rattle.std.proofs.Common.{arith}
use Rattle.mg_reply.proofs.ReadingLaws.{none_held}
use Rattle.mg_reply.proofs.input_buffer.InputBuffer.is_empty.Goals as goal

pub returns : goal.returns
returns c = rw (← c.self.view_is) (none_held c.self.inside.buffer c.self.inside.at c.self.inside.end (omega arith) (omega arith))
