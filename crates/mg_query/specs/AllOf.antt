-- The query of the documents that have all terms of a list: there is none where there are no terms.
use Rattle.std.specs.Prelude.{◌≡◌, ℕ, List, [], ◌∷◌, Option, None, Some}
use Rattle.mg_defs.specs.Phrases.{all_of}
use Rattle.mg_query.specs.QueryOf.{query_of}
use Rattle.mg_query.specs.declared.query.Query.{Query}

abbrev pub IsAllOf : List (List ℕ) → Option Query → Type 0
IsAllOf [] None = Unit {0}
IsAllOf [] (Some q) = ⊥
IsAllOf (t ∷ us) None = ⊥
IsAllOf (t ∷ us) (Some q) = query_of q ≡ all_of t us
