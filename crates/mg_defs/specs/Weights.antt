-- Weights and scores, and the documents of a ranked line. Weights count in parts of 256.
use Rattle.std.specs.Prelude.{◌≡◌, ℕ, ◌+◌, ◌-◌, ◌*◌, ◌/◌, nat_le, Bool, if◌then◌else◌, List, [], ◌∷◌, map, filter, sum_by, length, Option, Some, None, take}
use Rattle.std.specs.List.{list_any, enumerate_from}
use Rattle.std.specs.List.Sorted.{IsPermutation}
use Rattle.mg_defs.specs.Split.{documents}
use Rattle.mg_defs.specs.Terms.{terms, same_term, freq_in, dictionary, docs, sorted_distinct}
use Rattle.mg_defs.specs.FirstAppearances.{first_appearances}
use Rattle.mg_defs.specs.Fixed.{lg, isqrt}

-- Of a term that so many of all documents have, from 1 on. The logarithm is of 65536 at least, so that it is 4096 or more, and the subtraction cuts nothing.
unfoldable pub weight_of_term : ℕ → ℕ → ℕ
weight_of_term docs all = lg (65536 * (all + docs) / docs) - 4096

-- of a term that comes so often in a document, from once to 2 ^ 64 - 1 times
unfoldable pub weight_in_doc : ℕ → ℕ
weight_in_doc freq = 256 + lg freq

abbrev pub wt : List ℕ → List ℕ → ℕ
wt collection t = weight_of_term (docs collection t) (length (documents collection))

abbrev pub wd : List ℕ → List ℕ → ℕ
wd doc t = weight_in_doc (freq_in doc t)

-- of a document: the root of the sum of the squares over its distinct terms
unfoldable pub weight : List ℕ → ℕ
weight doc = isqrt (sum_by (λ t. wd doc t * wd doc t) (sorted_distinct (terms doc)))

-- by the sum of the products of weights, and the document's weight, which is 1 or more where the document has a term
unfoldable pub score_of : ℕ → ℕ → ℕ
score_of sum weight = 256 * sum / weight

abbrev pub has_term : List ℕ → List ℕ → Bool
has_term doc t = list_any (same_term t) (terms doc)

-- the distinct terms of the document are those of the dictionary that it has
abbrev pub HasDictionaryTerms : List ℕ → List ℕ → Type 0
HasDictionaryTerms collection doc = sorted_distinct (terms doc) ≡ filter (has_term doc) (dictionary collection)

-- Of a document for a list of terms, in parts of 65536: the terms that it has add up, each as often as the list has it.
abbrev pub score_over : List ℕ → List (List ℕ) → List ℕ → ℕ
score_over collection list doc = score_of (sum_by (λ t. wd doc t * wt collection t) (filter (has_term doc) list))
    (weight doc)

-- of a document for a query: over its distinct terms
abbrev pub score : List ℕ → List (List ℕ) → List ℕ → ℕ
score collection query doc = score_over collection (first_appearances query) doc

pub record Hit : Type 0 where
  pub number : ℕ
  pub score : ℕ

-- the documents with one of these terms, rising, each with its score
abbrev pub scored_by : (List ℕ → ℕ) → List ℕ → List (List ℕ) → List Hit
scored_by score collection terms =
    map (λ (d : ℕ × List ℕ). record { number = d.0; score = score d.1 })
    (filter (λ (d : ℕ × List ℕ). list_any (has_term d.1) terms) (enumerate_from 1 (documents collection)))

-- for a query
abbrev pub hits : List ℕ → List (List ℕ) → List Hit
hits collection query = scored_by (score collection query) collection query

-- for a list of terms
abbrev pub hits_over : List ℕ → List (List ℕ) → List Hit
hits_over collection list = scored_by (score_over collection list) collection list

-- a hit before those of a falling list that it doesn't lie below
abbrev pub inserted : Hit → List Hit → List Hit
inserted h [] = h ∷ []
inserted h (other ∷ rest) = if nat_le other.score h.score then h ∷ other ∷ rest else other ∷ inserted h rest

-- by falling score, ties in the order that they have: of rising documents, by rising number
abbrev pub by_score : List Hit → List Hit
by_score [] = []
by_score (h ∷ rest) = inserted h (by_score rest)

-- these are the hits of a query, in some order
abbrev pub AreHits : List ℕ → List (List ℕ) → List Hit → Type 0
AreHits collection query hs = IsPermutation (hits collection query) hs

-- the hits in the order of a ranked answer
abbrev pub sorted_hits : List ℕ → List (List ℕ) → List Hit
sorted_hits collection query = by_score (hits collection query)

-- the first k, or all
abbrev pub limited_to : {X : Type 0} → Option ℕ → List X → List X
limited_to None xs = xs
limited_to (Some k) xs = take k xs
