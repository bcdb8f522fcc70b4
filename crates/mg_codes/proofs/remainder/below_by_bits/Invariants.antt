use Rattle.std.proofs.Common.{◌-◌, ◌<◌}
use Rattle.mg_defs.specs.Bits.{digits}
use Rattle.mg_codes.specs.Remainders.{least_of}
use Rattle.mg_bits.proofs.CallerLemmas.{HasRead}
use Rattle.mg_codes.proofs.ShortWalk.{IsShort, Walked}
use Rattle.mg_codes.proofs.remainder.below_by_bits.Given as goal

abbrev pub invariant-loop-value : goal.invariant-loop-value
invariant-loop-value g l = record {
  shape : IsShort l.b l.size l.few;
  walked : Walked l.size l.few l.done l.high;
  least : least_of l.size l.few l.done l.high < l.bound;
  read : HasRead g.F.Feed.fits g.F.Feed.feeding g.F.Feed.device l.initial.r l.r l.initial.dev l.dev (digits l.done l.high);
}

abbrev pub decreases-loop-value : goal.decreases-loop-value
decreases-loop-value g l = l.size - l.done
