use Rattle.std.proofs.Common.{arith}
use Rattle.mg_codes.proofs.HeldCodes.{first_is_held}
use Rattle.mg_codes.proofs.remainder.short_here.Goals as goal

pub returns-then-code-bound : goal.returns-then-code-bound
returns-then-code-bound g c =
    first_is_held c.in-Some.next (g.met.F.Feed.whole_pages c.args.r.now.feed).some c.first_short-code.ensures.code
    (omega arith) c.in-Some.ensures.held c.in-Some.ensures.told
