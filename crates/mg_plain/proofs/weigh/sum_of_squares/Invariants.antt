use Rattle.std.proofs.Common.{◌≡◌, ◌+◌, ◌*◌, ◌^◌, ◌≤◌, drop}
use Rattle.mg_plain.specs.EqualTerms.{terms_of, squares}
use Rattle.mg_plain.proofs.weigh.sum_of_squares.Given as goal

abbrev pub invariant-loop-i : goal.invariant-loop-i
invariant-loop-i l = record {
  few : l.count ≤ l.i;
  small : l.sum ≤ l.i * 2 ^ 30;
  is : l.sum + squares l.count (terms_of (drop l.i l.words)) ≡ squares 0 (terms_of l.words);
}
