-- Lex and LexAt of small collections.
use Rattle.std.proofs.Common.{◌≡◌, ◌++◌, List, ℕ, [], ◌∷◌, refl}
use Rattle.std.specs.Prelude.{codes}
use Rattle.mg_defs.specs.Numbers.{four, eight}
use Rattle.mg_defs.specs.Front.{front_from, entry_bytes, shared, places_from}
use Rattle.mg_defs.specs.Codes.{golomb, unary, ones, short, shorter, ceil_log2, gamma}
use Rattle.mg_defs.specs.Lists.{posting_bits, bits_after, last_doc, doc_before, bits_before, entries_to, lists_bits, lists_entries}
use Rattle.mg_defs.specs.Bits.{digits, filled}
use Rattle.mg_defs.specs.Parse.{parse}
use Rattle.mg_defs.specs.Lexicon.{lexicon, lex_part, lex_at_part}

one_term : lex_part (codes "a a a a ") ≡ 1 ∷ 0x61 ∷ 0 ∷ 0 ∷ 0 ∷ 1 ∷ 0 ∷ 0 ∷ 0 ∷ 0 ∷ 0 ∷ 0 ∷ 0 ∷ 0 ∷ 0 ∷ 0 ∷ 0 ∷ 0 ∷ []
unfolding lexicon front_from entry_bytes shared four eight golomb unary ones short shorter ceil_log2 gamma digits parse posting_bits bits_after filled last_doc
    doc_before bits_before entries_to lists_bits lists_entries
one_term = refl

one_place : lex_at_part (codes "a a a a ") ≡ 0 ∷ 0 ∷ 0 ∷ 0 ∷ []
unfolding lexicon places_from entry_bytes shared four eight golomb unary ones short shorter ceil_log2 gamma digits parse posting_bits bits_after filled last_doc
    doc_before bits_before entries_to lists_bits lists_entries
one_place = refl

-- two terms: the list of the second begins behind that of the first
two_terms : lex_part (codes "b a") ≡ 1 ∷ 0x61 ∷ 0 ∷ 0 ∷ 0 ∷ 1 ∷ 0 ∷ 0 ∷ 0 ∷ 0 ∷ 0 ∷ 0 ∷ 0 ∷ 0 ∷ 0 ∷ 0 ∷ 0 ∷ 0 ∷ 0 ∷ 1 ∷ 0x62 ∷ 0 ∷ 0 ∷ 0 ∷ 1 ∷ 0 ∷ 0 ∷ 0 ∷ 0 ∷ 0 ∷ 0 ∷ 0 ∷ 1 ∷ 0 ∷ 0 ∷ 0 ∷ 1 ∷ []
unfolding lexicon front_from entry_bytes shared four eight golomb unary ones short shorter ceil_log2 gamma digits parse posting_bits bits_after filled last_doc
    doc_before bits_before entries_to lists_bits lists_entries
two_terms = refl

-- the cat sat / the dog / Cat, cat & dog!
three : List ℕ
three = codes "the cat sat\n" ++ (2 ∷ codes "the dog\n") ++ (2 ∷ codes "Cat, cat & dog!\n") ++ (2 ∷ [])

info : ℕ → ℕ → List ℕ
info docs n = 0 ∷ 0 ∷ 0 ∷ docs ∷ 0 ∷ 0 ∷ 0 ∷ 0 ∷ 0 ∷ 0 ∷ 0 ∷ n ∷ 0 ∷ 0 ∷ 0 ∷ n ∷ []

four_terms : lex_part three ≡ (3 ∷ codes "cat") ++ info 2 0 ++ (0 ∷ 3 ∷ codes "dog") ++ info 2 1 ++ (0 ∷ 3 ∷ codes "sat") ++ info 1 2 ++ (0 ∷ 3 ∷ codes "the") ++ info 2 3
unfolding three info lexicon front_from entry_bytes shared four eight golomb unary ones short shorter ceil_log2 gamma digits parse posting_bits bits_after
    filled last_doc doc_before bits_before entries_to lists_bits lists_entries
four_terms = refl
