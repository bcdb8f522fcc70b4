-- How often each of some terms comes.
use Rattle.std.specs.Prelude.{◌≡◌, ℕ, ◌<◌, Bool, not, ◌&&◌, List, [], length, get_or, count_by}
use Rattle.mg_defs.specs.Parse.{Pair}
use Rattle.mg_defs.specs.Terms.{folded, same_term, is_empty}

-- whether the pair's word is the term
abbrev pub is_hit : List ℕ → Pair → Bool
is_hit t p = not (is_empty p.word) && same_term t (folded p.word)

-- in these pairs
unfoldable pub hits_in : List ℕ → List Pair → ℕ
hits_in t pairs = count_by (is_hit t) pairs

-- The counts are those of the terms, in order.
pub record AreCounts (of : List ℕ → ℕ) (terms : List (List ℕ)) (counts : List ℕ) : Type 0 where
  pub size : length counts ≡ length terms
  pub each : (k : ℕ) → k < length terms → get_or counts k 0 ≡ of (get_or terms k [])
