use Rattle.std.proofs.Common.{◌-◌, ◌≤◌}
use Rattle.mg_defs.specs.Codes.{ones}
use Rattle.mg_bits.proofs.CallerLemmas.{HasRead}
use Rattle.mg_codes.proofs.unary.unary_by_bits.Given as goal

abbrev pub invariant-loop-ones : goal.invariant-loop-ones
invariant-loop-ones g l = record {
  most : l.ones ≤ l.limit;
  read : HasRead g.F.Feed.fits g.F.Feed.feeding g.F.Feed.device l.initial.r l.r l.initial.dev l.dev (ones l.ones);
}

abbrev pub decreases-loop-ones : goal.decreases-loop-ones
decreases-loop-ones g l = l.limit - l.ones
