use Rattle.std.proofs.Common.{◌≡◌, ◌+◌, ◌*◌, ◌^◌, ◌≤◌, drop}
use Rattle.mg_plain.specs.Products.{products}
use Rattle.mg_plain.proofs.score.sum_of_products.Given as goal

abbrev pub invariant-loop-i : goal.invariant-loop-i
invariant-loop-i l = record {
  small : l.sum ≤ l.i * 2 ^ 29;
  is : l.sum + products (drop l.i l.counts) (drop l.i l.weights) ≡ products l.counts l.weights;
}
