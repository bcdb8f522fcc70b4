-- Coded documents, their text and places, computed.
use Rattle.std.proofs.Common.{◌≡◌, ℕ, List, [], ◌∷◌, ◌++◌, true, false, refl, replicate, map, lit≤}
use Rattle.std.specs.Prelude.{codes}
use Rattle.mg_defs.specs.declared.Stream.TheVariants.{Words, Others}
use Rattle.mg_defs.specs.Parse.{parse}
use Rattle.mg_defs.specs.Bits.{digits, number, as_bytes}
use Rattle.mg_defs.specs.Codes.{gamma, unary, ones}
use Rattle.mg_defs.specs.Front.{front_from, entry_bytes, shared}
use Rattle.mg_defs.specs.Numbers.{four, eight}
use Rattle.mg_defs.specs.Vocabulary.{sorted_pieces}
use Rattle.mg_defs.specs.CodedText.{TextCode, IsTextCode, codeword_of, pieces_part, coded_doc, text_part, places, places_part, doc_range}
use Rattle.mg_defs.proofs.CollectionExamples.{k}

-- ---- eight bytes and an open end: each stream has one piece

abbrev pub repeats : List ℕ
repeats = codes "a a a a "

abbrev pub repeats_code : TextCode
repeats_code = record { words = record { pieces = codes "a" ∷ []; lengths = 1 ∷ [] }; others = record { pieces = codes " " ∷ []; lengths = 1 ∷ [] } }

pub repeats_is : IsTextCode repeats repeats_code
unfolding parse
repeats_is = (record { pieces = refl; lengths = record { each = refl; good = refl; cost = refl } }, record { pieces = refl; lengths = record { each = refl; good = refl; cost = refl } })

repeats_words : (pieces_part repeats_code.words ≡ 1 ∷ 97 ∷ 1 ∷ []) × (pieces_part repeats_code.others ≡ 1 ∷ 32 ∷ 1 ∷ [])
unfolding front_from entry_bytes
repeats_words = (refl, refl)

repeats_text : (coded_doc repeats_code repeats ≡ true ∷ true ∷ false ∷ false ∷ true ∷ replicate 8 false) × (text_part repeats_code repeats ≡ 200 ∷ 0 ∷ [])
unfolding parse gamma unary ones digits as_bytes number
repeats_text = (refl, refl)

repeats_places : (places_part 1 repeats_code repeats ≡ 0 ∷ 0 ∷ 0 ∷ 0 ∷ 0 ∷ 0 ∷ 0 ∷ 2 ∷ [])
    × (places_part 2 repeats_code repeats ≡ replicate 8 0 ++ replicate 7 0 ++ 2 ∷ []) × (doc_range repeats_code repeats 1 ≡ record { from = 0; to = 16 })
unfolding parse gamma unary ones digits as_bytes number four eight
repeats_places = (refl, refl, refl)

-- ---- empty documents, and blanks alone

abbrev pub no_code : TextCode
no_code = record { words = record { pieces = []; lengths = [] }; others = record { pieces = []; lengths = [] } }

two_empty : IsTextCode (2 ∷ 2 ∷ []) no_code × (text_part no_code (2 ∷ 2 ∷ []) ≡ 0 ∷ 0 ∷ []) × (places no_code (2 ∷ 2 ∷ []) ≡ 0 ∷ 1 ∷ 2 ∷ [])
unfolding parse gamma unary ones digits as_bytes number
two_empty = ((record { pieces = refl; lengths = record { each = refl; good = tt; cost = refl } }, record { pieces = refl; lengths = record { each = refl; good = tt; cost = refl } }), refl, refl)

abbrev blanks_code : TextCode
blanks_code = record { words = record { pieces = [] ∷ []; lengths = 1 ∷ [] }; others = record { pieces = replicate 45 32 ∷ replicate 255 32 ∷ []; lengths = 1 ∷ 1 ∷ [] } }

blanks : text_part blanks_code (replicate 300 32) ≡ 168 ∷ []
unfolding parse gamma unary ones digits as_bytes number
blanks = refl

blanks_is : IsTextCode (replicate 300 32) blanks_code
unfolding parse
blanks_is = (
  record { pieces = refl; lengths = record { each = refl; good = refl; cost = refl } },
  record { pieces = refl; lengths = record { each = refl; good = (((lit≤ tt, lit≤ tt), ((lit≤ tt, lit≤ tt), tt)), refl); cost = refl } },
)

-- ---- three documents

abbrev k_code : TextCode
k_code = record { words = record { pieces = sorted_pieces Words k; lengths = 3 ∷ 2 ∷ 2 ∷ 3 ∷ 2 ∷ [] }; others = record { pieces = sorted_pieces Others k; lengths = 2 ∷ 2 ∷ 2 ∷ 3 ∷ 3 ∷ [] } }

k_codewords : map (codeword_of k_code.words) k_code.words.pieces ≡ (false ∷ false ∷ false ∷ []) ∷ (false ∷ true ∷ []) ∷ (true ∷ false ∷ []) ∷ (false ∷ false ∷ true ∷ []) ∷ (true ∷ true ∷ []) ∷ []
unfolding parse digits
k_codewords = refl

k_words : pieces_part k_code.words ≡ 3 ∷ codes "Cat" ++ 3 ∷ 0 ∷ 3 ∷ codes "cat" ++ 2 ∷ 0 ∷ 3 ∷ codes "dog" ++ 2 ∷ 0 ∷ 3 ∷ codes "sat" ++ 3 ∷ 3 ∷ codes "the" ++ 2 ∷ []
unfolding parse front_from entry_bytes shared
k_words = refl

-- the documents have 18, 11 and 20 bits
k_places : places k_code k ≡ 0 ∷ 3 ∷ 5 ∷ 8 ∷ []
unfolding parse gamma unary ones digits as_bytes number
k_places = refl
