-- The occurrences of terms in a collection.
use Rattle.std.specs.Prelude.{ℕ, List, map}
use Rattle.std.specs.List.{flat_map, enumerate_from}
use Rattle.mg_defs.specs.Split.{documents}
use Rattle.mg_defs.specs.Terms.{terms, term_number}

-- each occurrence of a term, in reading order, as the term's number and the document's
abbrev pub occurrences : List ℕ → List (ℕ × ℕ)
occurrences collection = flat_map (λ (d : ℕ × List ℕ). map (λ t. (term_number collection t, d.0)) (terms d.1))
    (enumerate_from 1 (documents collection))
