-- The numbers of the terms of words.
use Rattle.std.specs.Prelude.{◌≡◌, ℕ, ◌<◌, ◌-◌, ◌^◌, ◌==◌, List, Option, None, Some, length, map, position, slice_get, if◌then◌else◌}
use Rattle.std.specs.Str.{bytes_eq}
use Rattle.mg_defs.specs.Marks.{term_in}
use Rattle.mg_defs.specs.Sorted.{sorted_distinct}
use Rattle.mg_defs.specs.Terms.{folded, is_empty, terms_of_words}

-- the terms in the order of their bytes, and the number of each word's term
pub record TermNumbers : Type 0 where
  pub terms : List (List ℕ)
  pub numbers : List (Option ℕ)

-- a word has a term among these: its number is that of one of them, which is the word, folded
pub record HasTerm (terms : List (List ℕ)) (word : List ℕ) : Type 0 where
  pub number : ℕ
  pub number_is : term_in terms word ≡ Some number
  pub within : number < length terms
  pub term_is : slice_get terms number ≡ Some (folded word)

-- the terms of these words, and the number of each word's term
abbrev pub terms_and_numbers : List (List ℕ) → TermNumbers
terms_and_numbers words = record {
  terms = sorted_distinct (terms_of_words words);
  numbers = map (term_in (sorted_distinct (terms_of_words words))) words;
}

-- this piece stands at this place
abbrev pub IsPieceAt : List (List ℕ) → ℕ → List ℕ → Type 0
IsPieceAt pieces place piece = slice_get pieces place ≡ Some piece

-- the symbol of a piece is its place
abbrev pub HasSymbol : List (List ℕ) → List ℕ → ℕ → Type 0
HasSymbol pieces piece symbol = position (bytes_eq piece) pieces ≡ Some symbol

-- at this symbol stands the number of the term of this word
abbrev pub HasNumberAt : TermNumbers → ℕ → List ℕ → Type 0
HasNumberAt it symbol word = slice_get it.numbers symbol ≡ Some (term_in it.terms word)

-- the place of the term of a word; the empty word has none
abbrev pub place_in : List (List ℕ) → List ℕ → Option ℕ
place_in terms word = if is_empty word then None else position (bytes_eq (folded word)) terms

-- the number of a term by what is kept of it: the greatest that four bytes hold tells that there is none
abbrev pub number_kept : ℕ → Option ℕ
number_kept kept = if kept == 2 ^ 32 - 1 then None else Some kept

abbrev pub numbers_kept : List ℕ → List (Option ℕ)
numbers_kept kept = map number_kept kept
