use Rattle.std.proofs.Common.{arith}
use Rattle.mg_codes.proofs.HeldCodes.{first_is_held}
use Rattle.mg_codes.proofs.held.gamma_here.Goals as goal

pub returns-in-Some-first_gamma : goal.returns-in-Some-first_gamma
returns-in-Some-first_gamma g c =
    first_is_held c.in-Some.next (g.met.F.Feed.whole_pages c.args.r.now.feed).some c.in-Some-first_gamma.ensures.code
    (omega (arith, c.in-Some-first_gamma.ensures.some), omega arith) c.in-Some.ensures.held c.in-Some.ensures.told
