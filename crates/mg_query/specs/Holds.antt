-- Whether a query holds, by which of its terms are there.
use Rattle.std.specs.Prelude.{◌≡◌, ℕ, ◌<◌, Bool, true, false, not, ◌&&◌, ◌||◌, List, [], length, get_or, drop}
use Rattle.mg_defs.specs.Sat.{Query, term, both, either, without}
use Rattle.mg_defs.specs.QueryTerms.{query_terms}
use Rattle.mg_defs.specs.Weights.{has_term}

-- where its terms, from left to right, are there or not
abbrev pub holds : Query → List Bool → Bool
holds (term t) there = get_or there 0 false
holds (both p q) there = holds p there && holds q (drop (length (query_terms p)) there)
holds (either p q) there = holds p there || holds q (drop (length (query_terms p)) there)
holds (without q) there = not (holds q there)

-- these terms are there where the document has them
pub record AreThere (doc : List ℕ) (ts : List (List ℕ)) (there : List Bool) : Type 0 where
  pub size : length there ≡ length ts
  pub each : (k : ℕ) → k < length ts → get_or there k true ≡ has_term doc (get_or ts k [])
