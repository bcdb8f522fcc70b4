-- The sum of a document's score.
use Rattle.std.specs.Prelude.{ℕ, ◌+◌, ◌*◌, nat_lt, cond, List, [], ◌∷◌}
use Rattle.mg_defs.specs.Weights.{weight_in_doc}

-- over the terms that the document has: how often it has each, by its weight
abbrev pub products : List ℕ → List ℕ → ℕ
products [] weights = 0
products (freq ∷ counts) [] = 0
products (freq ∷ counts) (weight ∷ weights) = cond (nat_lt 0 freq) (weight_in_doc freq * weight) 0
    + products counts weights
