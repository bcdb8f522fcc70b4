use Rattle.std.proofs.Common.{◌-◌, ◌≤◌}
use Rattle.mg_defs.specs.Codes.{ones}
use Rattle.mg_bits.specs.Writer.{WroteTo}
use Rattle.mg_bits.specs.BitWriting.{Holds, WroteBits}
use Rattle.mg_codes.proofs.unary.put_unary.Given as goal

abbrev pub invariant-loop-left : goal.invariant-loop-left
invariant-loop-left g l = record {
  left : l.left ≤ l.x - 1;
  holds : Holds l.w (g.S.Store.files l.store);
  bits : WroteBits l.initial.w l.w (g.S.Store.files l.initial.store) (g.S.Store.files l.store) (ones (l.x - 1 - l.left));
  wrote : WroteTo l.initial.w.name (g.S.Store.files l.initial.store) (g.S.Store.files l.store) (g.S.Store.reads l.initial.store) (g.S.Store.reads l.store);
  faults : g.S.Store.faults l.initial.store ≤ g.S.Store.faults l.store;
}

abbrev pub decreases-loop-left : goal.decreases-loop-left
decreases-loop-left g l = l.left
