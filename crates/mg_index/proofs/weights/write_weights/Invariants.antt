use Rattle.std.proofs.Common.{◌≡◌, ◌≤◌, take, IsSome}
use Rattle.std.specs.List.{flat_map}
use Rattle.mg_dev.specs.Names.{full_name}
use Rattle.mg_dev.specs.declared.part.Part.TheVariants.{Weights}
use Rattle.mg_bits.specs.Writer.{WroteTo, put_to}
use Rattle.mg_defs.specs.Fixed.{isqrt}
use Rattle.mg_defs.specs.Numbers.{four}
use Rattle.mg_index.proofs.weights.write_weights.Given as goal

abbrev pub invariant-loop-sum : goal.invariant-loop-sum
invariant-loop-sum g l = record {
  bytes : IsSome (g.S.Store.files l.fn.store) → put_to l.writer (g.S.Store.files l.store) ≡ flat_map (λ sum. four (isqrt sum)) (take l.sum-index l.sums);
  name : l.writer.name ≡ full_name l.base Weights;
  wrote : WroteTo (full_name l.base Weights) (g.S.Store.files l.fn.store) (g.S.Store.files l.store) (g.S.Store.reads l.fn.store) (g.S.Store.reads l.store);
  later : g.S.Store.faults l.fn.store ≤ g.S.Store.faults l.store;
}
