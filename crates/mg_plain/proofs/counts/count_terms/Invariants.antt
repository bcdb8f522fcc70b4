use Rattle.std.proofs.Common.{◌≡◌, ℕ, ◌+◌, ◌<◌, [], length, get_or}
use Rattle.mg_defs.specs.Terms.{freq_in}
use Rattle.mg_plain.specs.Counts.{hits_in}
use Rattle.mg_plain.proofs.counts.count_terms.Given as goal

abbrev pub invariant-loop-count : goal.invariant-loop-count
invariant-loop-count l = (k : ℕ) → k < l.count-index → get_or l.counts k 0 ≡ 0

abbrev pub invariant-loop-pair : goal.invariant-loop-pair
invariant-loop-pair l = record {
  size : length l.counts ≡ length l.terms;
  each : (k : ℕ) → k < length l.terms → get_or l.counts k 0 + hits_in (get_or l.terms k []) l.pair-iterator ≡ freq_in l.doc (get_or l.terms k []);
}
