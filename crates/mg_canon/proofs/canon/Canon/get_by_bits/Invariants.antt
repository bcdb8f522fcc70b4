use Rattle.std.proofs.Common.{◌-◌}
use Rattle.mg_defs.specs.Bits.{digits}
use Rattle.mg_bits.proofs.CallerLemmas.{HasRead}
use Rattle.mg_canon.proofs.Decoding.{Walk}
use Rattle.mg_canon.proofs.canon.Canon.get_by_bits.Given as goal

abbrev pub invariant-loop-reader : goal.invariant-loop-reader
invariant-loop-reader g l = record {
  read : HasRead g.F.Feed.fits g.F.Feed.feeding g.F.Feed.device l.initial.reader l.reader l.initial.dev l.dev (digits l.read l.value);
  walk : Walk l.self-inside.lengths.items l.read l.value;
}

abbrev pub decreases-loop-reader : goal.decreases-loop-reader
decreases-loop-reader g l = 48 - l.read
