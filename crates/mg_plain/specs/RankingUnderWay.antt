-- A ranking that is under way.
use Rattle.std.specs.Prelude.{◌≡◌, ◌<◌, ℕ, ◌+◌, List, [], ◌++◌, length, get_or, drop, map, filter, count_by, All}
use Rattle.std.specs.List.{list_any, enumerate_from}
use Rattle.mg_defs.specs.Split.{documents}
use Rattle.mg_defs.specs.Terms.{docs}
use Rattle.mg_defs.specs.Weights.{Hit, has_term, score_over, hits_over}
use Rattle.mg_plain.specs.declared.order.Row.{Row}
use Rattle.mg_plain.specs.RankedRows.{hits_of, IsPlaced}

-- how many of these documents have the term
unfoldable pub having : List ℕ → List (List ℕ) → ℕ
having t documents = count_by (λ doc. has_term doc t) documents

-- the hits among the documents from number n on
unfoldable pub hits_from : List ℕ → List (List ℕ) → ℕ → List (List ℕ) → List Hit
hits_from collection query n documents =
    map (λ (d : ℕ × List ℕ). record { number = d.0; score = score_over collection query d.1 })
    (filter (λ (d : ℕ × List ℕ). list_any (has_term d.1) query) (enumerate_from n documents))

-- So many documents were read, and each was counted at the terms that it has.
pub record Tallied (collection : List ℕ) (query : List (List ℕ)) (found : List ℕ) (number : ℕ) (rest : List (List ℕ)) :
    Type 0 where
  pub front : List (List ℕ)
  pub docs_is : documents collection ≡ front ++ rest
  pub count : length front ≡ number
  pub size : length found ≡ length query
  pub each : (k : ℕ) → k < length query → get_or found k 0 + having (get_or query k []) rest
      ≡ docs collection (get_or query k [])

-- So many documents were read, and the rows are those of them that have a term; the rest begins at the place.
pub record Ranked (collection : List ℕ) (query : List (List ℕ)) (rows : List Row) (number place : ℕ)
    (rest : List (List ℕ)) : Type 0 where
  pub front : List (List ℕ)
  pub docs_is : documents collection ≡ front ++ rest
  pub count : length front ≡ number
  pub place_is : documents (drop place collection) ≡ rest
  pub hits_is : hits_over collection query ≡ hits_of rows ++ hits_from collection query (number + 1) rest
  pub rows_placed : All (IsPlaced collection) rows
