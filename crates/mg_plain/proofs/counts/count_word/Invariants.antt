use Rattle.std.proofs.Common.{◌≡◌, ℕ, ◌+◌, ◌<◌, ◌≤◌, [], get_or, cond}
use Rattle.mg_defs.specs.Terms.{same_term, folded}
use Rattle.mg_plain.proofs.counts.count_word.Given as goal

abbrev pub invariant-loop-i : goal.invariant-loop-i
invariant-loop-i l = record {
  done : (k : ℕ) → k < l.i → get_or l.counts k 0 ≡ get_or l.fn.counts k 0 + cond (same_term (get_or l.terms k []) (folded l.word)) 1 0;
  rest : (k : ℕ) → l.i ≤ k → get_or l.counts k 0 ≡ get_or l.fn.counts k 0;
}
