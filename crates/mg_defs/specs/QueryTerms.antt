-- The terms of a query.
use Rattle.std.specs.Prelude.{ℕ, List, [], ◌∷◌, ◌++◌}
use Rattle.mg_defs.specs.Sat.{Query, term, both, either, without}

-- from left to right, repeats kept
abbrev pub query_terms : Query → List (List ℕ)
query_terms (term t) = t ∷ []
query_terms (both p q) = query_terms p ++ query_terms q
query_terms (either p q) = query_terms p ++ query_terms q
query_terms (without q) = query_terms q
