use Rattle.std.proofs.Common.{◌<◌, ◌≤◌, ℕ, slice_index}
use Rattle.mg_check_index.proofs.ranges.are_sizes.Given as goal

abbrev pub invariant-loop-count : goal.invariant-loop-count
invariant-loop-count l = record {
  some : (k : ℕ) → k < l.count-index → 1 ≤ slice_index l.docs k;
  within : (k : ℕ) → k < l.count-index → slice_index l.docs k ≤ l.all;
}
