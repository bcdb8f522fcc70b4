use Rattle.std.proofs.Common.{◌≤◌, ◌*◌}
use Rattle.mg_bits.specs.BitWriting.{Holds}
use Rattle.mg_bench.proofs.bits.write.Given as goal

abbrev pub invariant-loop-number : goal.invariant-loop-number
invariant-loop-number g l = record {
  holds : Holds l.writer (g.S.Store.files l.store);
  place : l.writer.place ≤ 13 * l.number;
}
