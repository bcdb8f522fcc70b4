-- How many documents have each term, as they are counted in reading order.
use Rattle.std.specs.Prelude.{◌≡◌, ◌≤◌, ◌<◌, ◌++◌, ◌∷◌, ℕ, List, [], length, map, slice_index}
use Rattle.mg_defs.specs.DocCounts.{docs_with, last_with}
use Rattle.mg_defs.specs.Postings.{once, times}

-- of each term, how many documents have it so far, and the last of these
pub record DocCounting : Type 0 where
  pub docs : List ℕ
  pub last : List ℕ

-- these are the counts of so many terms after these occurrences
pub record AreDocCounts (c : DocCounting) (terms : ℕ) (fed : List (ℕ × ℕ)) : Type 0 where
  pub doc_size : length c.docs ≡ terms
  pub last_size : length c.last ≡ terms
  pub docs : (term : ℕ) → term < terms → slice_index c.docs term ≡ docs_with term fed
  pub last : (term : ℕ) → term < terms → slice_index c.last term ≡ last_with term 0 fed
  pub few : (term : ℕ) → term < terms → slice_index c.docs term ≤ slice_index c.last term
  -- no document of a term comes after its last one
  pub order : (term doc : ℕ) → 1 ≤ times term doc (map once fed) → doc ≤ last_with term 0 fed

-- after one occurrence more, of a term in a document that is not before the last one that has it, they are the counts of that too
abbrev pub CountsOneMore : DocCounting → DocCounting → ℕ → ℕ → Type 0
CountsOneMore old new term doc =
    (fed : List (ℕ × ℕ)) → AreDocCounts old (length old.docs) fed → last_with term 0 fed ≤ doc →
    AreDocCounts new (length old.docs) (fed ++ (term, doc) ∷ [])
