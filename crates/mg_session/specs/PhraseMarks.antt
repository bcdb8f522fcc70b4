-- Marks of words that are told by their symbols.
use Rattle.std.specs.Prelude.{◌≡◌, ℕ, not, List, [], filter, get_or, map}
use Rattle.mg_defs.specs.CodedText.{TextCode}
use Rattle.mg_defs.specs.Terms.{is_empty}
use Rattle.mg_phrase.specs.Marks.{Marking, MarksFit, mark_of}

-- the mark is that of the symbol's piece, and the marks that are kept are still those of the pieces, for the same phrase
pub record MarksWord (pieces : List (List ℕ)) (symbol mark : ℕ) (old new : Marking) : Type 0 where
  pub mark_is : mark ≡ mark_of old.phrase (get_or pieces symbol [])
  pub fit : MarksFit pieces new
  pub phrase : new.phrase ≡ old.phrase

-- the symbols are those of these words, without the empty ones
abbrev pub AreWords : TextCode → List ℕ → List (List ℕ) → Type 0
AreWords code symbols words = map (λ (s : ℕ). get_or code.words.pieces s []) symbols
    ≡ filter (λ (w : List ℕ). not (is_empty w)) words
