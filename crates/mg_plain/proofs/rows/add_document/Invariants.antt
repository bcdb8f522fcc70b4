use Rattle.std.proofs.Common.{◌≡◌, ℕ, ◌+◌, ◌<◌, ◌≤◌, get_or, nat_lt, cond}
use Rattle.mg_plain.proofs.rows.add_document.Given as goal

abbrev pub invariant-loop-i : goal.invariant-loop-i
invariant-loop-i l = record {
  done : (k : ℕ) → k < l.i → get_or l.found k 0 ≡ get_or l.fn.found k 0 + cond (nat_lt 0 (get_or l.counts k 0)) 1 0;
  rest : (k : ℕ) → l.i ≤ k → get_or l.found k 0 ≡ get_or l.fn.found k 0;
}
