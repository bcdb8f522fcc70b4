-- Scores by the counts and the weights of terms.
use Rattle.std.specs.Prelude.{◌≡◌, ℕ, true, false, List, MatchOption}
use Rattle.std.specs.List.{list_any}
use Rattle.std.specs.declared.option.Option.{Option}
use Rattle.mg_defs.specs.Terms.{freq_in}
use Rattle.mg_defs.specs.Weights.{has_term, score_over, wt}
use Rattle.mg_plain.specs.Counts.{AreCounts}

-- the score of a document for each list of terms that come so often in it, over each collection in which they weigh so much
abbrev pub IsScoreBy : List ℕ → List ℕ → List ℕ → ℕ → Type 0
IsScoreBy doc counts weights s = (collection : List ℕ) (query : List (List ℕ)) → AreCounts (freq_in doc) query counts →
    AreCounts (wt collection) query weights → s ≡ score_over collection query doc

-- the score of a document for terms that weigh so much; none exactly where it has none of them
abbrev pub IsScoreFor : List ℕ → List (List ℕ) → List ℕ → Option ℕ → Type 0
IsScoreFor doc terms weights found =
    MatchOption found (list_any (has_term doc) terms ≡ false) (λ s.
    (list_any (has_term doc) terms ≡ true)
    × ((collection : List ℕ) → AreCounts (wt collection) terms weights → s ≡ score_over collection terms doc))
