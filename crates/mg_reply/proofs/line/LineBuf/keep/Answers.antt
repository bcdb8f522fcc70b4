use Rattle.std.proofs.Common.{arith}
use Rattle.std.proofs.lemmas.List.{length-take}
use Rattle.mg_reply.proofs.ReadingLaws.{kept_more, kept_full}
use Rattle.mg_reply.proofs.line.LineBuf.keep.Goals as goal

pub returns-then-self-lt1024 : goal.returns-then-self-lt1024
returns-then-self-lt1024 c = rw (← c.self.view_is) (kept_more c.self.inside.buffer c.self.inside.len c.args.byte c.if-self-lt1024.true (omega arith))

pub returns-else-self-lt1024 : goal.returns-else-self-lt1024
returns-else-self-lt1024 c = kept_full c.args.self.now c.args.byte (rw (← c.self.view_is) (omega (arith, length-take c.self.inside.len c.self.inside.buffer)))
