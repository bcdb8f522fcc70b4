use Rattle.std.proofs.Common.{arith, ◌+◌}
use Rattle.mg_bits.proofs.CallerLemmas.{holds_inside}
use Rattle.mg_codes.proofs.HeldCodes.{told_unary, unary_length}
use Rattle.mg_codes.proofs.unary.unary_here.Goals as goal

pub returns-in-Some-ones_before_zero : goal.returns-in-Some-ones_before_zero
returns-in-Some-ones_before_zero g c = record {
  range = (omega arith, omega arith);
  some = omega arith;
  small = omega (arith, c.in-Some-ones_before_zero.ensures.within);
  size = unary_length (c.in-Some-ones_before_zero.ones + 1) (omega arith);
  held =
      holds_inside _ c.args.r.now.place c.args.r.now.place 57 (c.in-Some-ones_before_zero.ones + 1) (g.met.F.Feed.whole_pages c.args.r.now.feed).some
      (omega arith) (omega arith) (omega (arith, c.in-Some-ones_before_zero.ensures.within)) c.in-Some.ensures.held;
  told = λ files fits.
      told_unary _ c.args.r.now.place c.in-Some.next c.in-Some-ones_before_zero.ones c.in-Some-ones_before_zero.ensures (c.in-Some.ensures.told files fits);
}
