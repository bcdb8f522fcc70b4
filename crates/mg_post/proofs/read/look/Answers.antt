use Rattle.std.proofs.Common.{arith}
use Rattle.mg_post.proofs.AheadLaws.{peeked_ahead}
use Rattle.mg_post.proofs.read.look.Goals as goal

pub returns : goal.returns
returns g c = peeked_ahead _ _ c.args.r.now.place c.in-Some.bits (omega (arith, c.if-place-gt-LAST.false, c.place.ensures)) c.in-Some.ensures.below
    c.in-Some.ensures.held c.in-Some.ensures.told
