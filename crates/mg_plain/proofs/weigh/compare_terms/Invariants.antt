use Rattle.std.proofs.Common.{◌≡◌, ◌≤◌, length, drop}
use Rattle.std.specs.Cmp.Lexicographic.{slice_cmp}
use Rattle.std.specs.Ordering.{nat_cmp}
use Rattle.mg_defs.specs.Terms.{folded}
use Rattle.mg_plain.proofs.weigh.compare_terms.Given as goal

abbrev pub invariant-loop-i : goal.invariant-loop-i
invariant-loop-i l = record {
  within : l.i ≤ length l.right;
  is : slice_cmp nat_cmp (folded (drop l.i l.left)) (folded (drop l.i l.right)) ≡ slice_cmp nat_cmp (folded l.left) (folded l.right);
}
