use Rattle.std.proofs.Common.{◌≡◌, ◌+◌, ◌-◌, ◌*◌, ◌≤◌, length, drop, reverse}
use Rattle.mg_defs.specs.Cost.{sorted, merge_cost}
use Rattle.mg_huff.specs.Forest.{Grown}
use Rattle.mg_huff.proofs.join.grow.Given as goal

abbrev pub invariant-loop-made : goal.invariant-loop-made
invariant-loop-made l = record {
  forest : Grown (merge_cost (length l.leaves) (sorted l.leaves)) l.leaves (reverse l.joins.items) (drop l.front.leaf l.leaves) (drop l.front.inner l.inner.items);
  inner_made : length l.inner.items + 1 ≡ l.made;
  taken : l.front.leaf + l.front.inner + 2 ≡ 2 * l.made;
  leaf_range : l.front.leaf ≤ length l.leaves;
  newest_left : l.front.inner ≤ l.made - 2;
}
