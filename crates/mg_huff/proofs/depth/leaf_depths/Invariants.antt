use Rattle.mg_huff.specs.Forest.{Undone}
use Rattle.mg_huff.proofs.depth.leaf_depths.Given as goal

abbrev pub invariant-loop-at : goal.invariant-loop-at
invariant-loop-at l = Undone l.leaves l.joins l.at l.found.items l.inner.items
