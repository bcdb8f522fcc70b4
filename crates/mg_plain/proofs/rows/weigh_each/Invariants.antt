use Rattle.std.proofs.Common.{◌≡◌, ℕ, ◌<◌, ◌≤◌, ◌^◌, get_or}
use Rattle.mg_defs.specs.Weights.{weight_of_term}
use Rattle.mg_plain.proofs.rows.weigh_each.Given as goal

abbrev pub invariant-loop-one : goal.invariant-loop-one
invariant-loop-one l = record {
  done : (k : ℕ) → k < l.one-index → get_or l.found k 0 ≡ weight_of_term (get_or l.fn.found k 0) l.all;
  light : (k : ℕ) → k < l.one-index → get_or l.found k 0 < 2 ^ 14;
  rest : (k : ℕ) → l.one-index ≤ k → get_or l.found k 0 ≡ get_or l.fn.found k 0;
}
