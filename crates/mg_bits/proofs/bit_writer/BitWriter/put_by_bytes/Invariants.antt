use Rattle.std.proofs.Common.{◌-◌, ◌/◌, ◌≤◌, ◌^◌, Ok}
use Rattle.mg_dev.specs.Moments.{Between}
use Rattle.mg_defs.specs.Bits.{digits}
use Rattle.mg_bits.specs.BitWriting.{PutsBits}
use Rattle.mg_bits.proofs.bit_writer.BitWriter.put_by_bytes.Given as goal

abbrev pub invariant-loop-left : goal.invariant-loop-left
invariant-loop-left g l = record {
  left : l.left ≤ l.count;
  put : Between g.S.Store.files g.S.Store.reads g.S.Store.faults l.initial.store l.store
      (PutsBits l.initial.self l.self (digits (l.count - l.left) (l.value / 2 ^ l.left)) (Ok tt));
}

abbrev pub decreases-loop-left : goal.decreases-loop-left
decreases-loop-left g l = l.left
