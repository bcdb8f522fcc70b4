-- What the words of a document are for a phrase, told by small numbers, and how its places are counted by them.
use Rattle.std.specs.Prelude.{◌≡◌, ◌≢◌, ℕ, suc, ◌+◌, ◌⊎◌, if◌then◌else◌, List, [], ◌∷◌, Some, get_or, map, slice_get}
use Rattle.mg_defs.specs.OnePass.{place_count_from}
use Rattle.mg_defs.specs.Parse.{Pair, parse}
use Rattle.mg_defs.specs.Terms.{folded, same_term, terms_of_words}

-- the first place of a term among those of a phrase; how many they are, where it is none of them
abbrev pub place_in : List (List ℕ) → List ℕ → ℕ
place_in [] t = 0
place_in (w ∷ ws) t = if same_term w t then 0 else suc (place_in ws t)

-- the mark of a word: 1 where it is empty, and else 2 and the place of its term
abbrev pub mark_of : List (List ℕ) → List ℕ → ℕ
mark_of phrase [] = 1
mark_of phrase (b ∷ word) = 2 + place_in phrase (folded (b ∷ word))

-- ---- marks that are kept

-- a phrase, and marks by the symbols of words, 0 where none is kept
pub record Marking : Type 0 where
  pub phrase : List (List ℕ)
  pub marks : List ℕ

-- each mark that is kept is that of the piece of its symbol
abbrev pub MarksFit : List (List ℕ) → Marking → Type 0
MarksFit pieces m = (symbol : ℕ) (piece : List ℕ) → slice_get pieces symbol ≡ Some piece →
    get_or m.marks symbol 0 ≢ 0 → get_or m.marks symbol 0 ≡ mark_of m.phrase piece

-- a mark is kept by its symbol, or it is not for want of memory, and those of other symbols stay
pub record KeepsMark (symbol mark : ℕ) (old new : List ℕ) : Type 0 where
  pub there : (get_or new symbol 0 ≡ mark) ⊎ (get_or new symbol 0 ≡ get_or old symbol 0)
  pub others : (other : ℕ) → other ≢ symbol → get_or new other 0 ≡ get_or old other 0

-- ---- places that are counted

-- a phrase, what of it is to come where it has begun, and in how many places it stood so far
pub record Counting : Type 0 where
  pub phrase : List (List ℕ)
  pub begun : List (List (List ℕ))
  pub places : ℕ

-- in how many places it will have stood behind these words
abbrev pub places_with : Counting → List (List ℕ) → ℕ
places_with c words = c.places + place_count_from c.phrase c.begun (terms_of_words words)

-- the words of a document, with those that are empty
abbrev pub words_of : List ℕ → List (List ℕ)
words_of doc = map (λ (p : Pair). p.word) (parse doc)
