-- Pieces that are words, and the documents that have the terms of words.
use Rattle.std.specs.Prelude.{◌≡◌, ℕ, ◌≤◌, List, [], length, map, get_or, All}
use Rattle.std.specs.List.{prefix_len}
use Rattle.mg_defs.specs.Limits.{piece_bytes}
use Rattle.mg_defs.specs.Parse.{is_word_byte}
use Rattle.mg_defs.specs.Sorted.{number_of}
use Rattle.mg_defs.specs.Terms.{terms, terms_of_words}

-- a piece of bytes of words alone, of which there are no more than a piece may have
pub record IsWord (piece : List ℕ) : Type 0 where
  pub bytes : prefix_len is_word_byte piece ≡ length piece
  pub short : length piece ≤ piece_bytes

-- each piece is a word
abbrev pub AreWords : List (List ℕ) → Type 0
AreWords pieces = All IsWord pieces

-- the pieces of symbols
abbrev pub pieces_of : List (List ℕ) → List ℕ → List (List ℕ)
pieces_of pieces symbols = map (λ (s : ℕ). get_or pieces s []) symbols

-- the document has the terms of these words, in reading order
abbrev pub HasTermsOf : List (List ℕ) → List ℕ → Type 0
HasTermsOf words doc = terms doc ≡ terms_of_words words

-- the numbers among these of the terms of words, in reading order
abbrev pub numbers_of : List (List ℕ) → List (List ℕ) → List ℕ
numbers_of dictionary words = map (number_of dictionary) (terms_of_words words)
