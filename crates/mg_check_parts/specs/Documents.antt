-- The terms of a document, by their numbers among those of a collection.
use Rattle.std.specs.Prelude.{ℕ, nat_lt, List, map, filter}
use Rattle.std.specs.List.{enumerate_from}
use Rattle.mg_defs.specs.Sorted.{number_of}
use Rattle.mg_defs.specs.Terms.{freq_in, terms}

-- the number among these of each term of a document, in reading order
abbrev pub numbers_in : List (List ℕ) → List ℕ → List ℕ
numbers_in dictionary doc = map (number_of dictionary) (terms doc)

-- the terms among these that a document has, each by its number, from 0, and how often it comes; they rise by number
abbrev pub counted_in : List (List ℕ) → List ℕ → List (ℕ × ℕ)
counted_in dictionary doc =
    filter (λ (e : ℕ × ℕ). nat_lt 0 e.1) (map (λ (e : ℕ × List ℕ). (e.0, freq_in doc e.1))
    (enumerate_from 0 dictionary))
