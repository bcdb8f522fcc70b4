-- The runs of occurrences, so many at a time.
use Rattle.std.specs.Prelude.{ℕ, ◌+◌, ◌-◌, ◌/◌, List, length, map}
use Rattle.std.specs.Simd.{first_chunks}
use Rattle.mg_defs.specs.declared.TermPosting.{TermPosting}
use Rattle.mg_defs.specs.Postings.{term_postings}

-- the first so many runs, of cap occurrences each, the last of them maybe of fewer
abbrev pub first_runs : ℕ → ℕ → List (ℕ × ℕ) → List (List TermPosting)
first_runs cap count occurrences = map (λ s. term_postings s) (first_chunks cap count occurrences)

-- the runs of all occurrences
abbrev pub runs_of : ℕ → List (ℕ × ℕ) → List (List TermPosting)
runs_of cap occurrences = first_runs cap ((length occurrences + cap - 1) / cap) occurrences
