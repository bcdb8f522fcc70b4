use Rattle.std.proofs.Common.{arith}
use Rattle.mg_reply.proofs.ReadingLaws.{few_held}
use Rattle.mg_reply.proofs.input_buffer.InputBuffer.first.Goals as goal

pub returns-clause-few : goal.returns-clause-few
returns-clause-few c = rw (← c.self.view_is) (few_held c.self.inside.buffer c.self.inside.at c.self.inside.end (omega arith))
