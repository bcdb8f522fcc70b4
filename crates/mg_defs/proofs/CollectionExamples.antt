-- Collections, their documents, pieces, terms and limits, computed.
use Rattle.std.proofs.Common.{◌≡◌, ℕ, List, [], ◌∷◌, ◌++◌, true, false, refl, replicate, length, map}
use Rattle.std.specs.Prelude.{codes}
use Rattle.mg_defs.specs.declared.Stream.TheVariants.{Words, Others}
use Rattle.mg_defs.specs.Split.{documents, has_open_end, closed_count}
use Rattle.mg_defs.specs.Parse.{Pair, parse}
use Rattle.mg_defs.specs.Pieces.{pieces}
use Rattle.mg_defs.specs.Terms.{document, terms, dictionary, docs, freq, term_number}
use Rattle.mg_defs.specs.Sat.{both, term, without, satisfies}
use Rattle.mg_defs.specs.Vocabulary.{all_pieces, vocabulary, sorted_pieces, piece_counts, sorted_of, counts_of, total}
use Rattle.mg_defs.specs.Limits.{version_1, version_2, piece_bytes, held_bytes, least_budget, greatest_budget, default_budget, most_rotations, least_cap, greatest_cap}
use Rattle.mg_defs.specs.Summaries.{run_cap}
use Rattle.mg_defs.specs.TextBits.{head_bits, text_bits}
use Rattle.mg_defs.specs.Codes.{gamma, unary, ones}
use Rattle.mg_defs.specs.Bits.{digits}

abbrev pair_of : List ℕ → List ℕ → Pair
pair_of word other = record { word = word; other = other }

-- ---- three documents, all closed, in 39 bytes

abbrev pub k : List ℕ
k = codes "the cat sat\n" ++ 2 ∷ codes "the dog\n" ++ 2 ∷ codes "Cat, cat & dog!\n" ++ 2 ∷ []

k_length : length k ≡ 39
k_length = refl

k_split : (documents k ≡ codes "the cat sat\n" ∷ codes "the dog\n" ∷ codes "Cat, cat & dog!\n" ∷ []) × (has_open_end k ≡ false) × (closed_count k ≡ 3)
k_split = (refl, refl, refl)

-- what lies outside the numbers of its documents is empty
k_documents : (document k 1 ≡ codes "the cat sat\n") × (document k 3 ≡ codes "Cat, cat & dog!\n") × (document k 0 ≡ []) × (document k 4 ≡ [])
k_documents = (refl, refl, refl, refl)

k_pairs : map parse (documents k) ≡
    (pair_of (codes "the") (codes " ") ∷ pair_of (codes "cat") (codes " ") ∷ pair_of (codes "sat") (codes "\n") ∷ [])
    ∷ (pair_of (codes "the") (codes " ") ∷ pair_of (codes "dog") (codes "\n") ∷ [])
    ∷ (pair_of (codes "Cat") (codes ", ") ∷ pair_of (codes "cat") (codes " & ") ∷ pair_of (codes "dog") (codes "!\n") ∷ [])
    ∷ []
unfolding parse
k_pairs = refl

k_dictionary : dictionary k ≡ codes "cat" ∷ codes "dog" ∷ codes "sat" ∷ codes "the" ∷ []
unfolding parse
k_dictionary = refl

k_counts : (map (docs k) (dictionary k) ≡ 2 ∷ 2 ∷ 1 ∷ 2 ∷ []) × (freq k 3 (codes "cat") ≡ 2) × (freq k 2 (codes "cat") ≡ 0) × (term_number k (codes "sat") ≡ 2) × (term_number k (codes "zebra") ≡ 4)
unfolding parse
k_counts = (refl, refl, refl, refl, refl)

k_words : vocabulary (all_pieces Words k) ≡ (codes "the", 2) ∷ (codes "cat", 2) ∷ (codes "sat", 1) ∷ (codes "dog", 2) ∷ (codes "Cat", 1) ∷ []
unfolding parse
k_words = refl

k_sorted : (sorted_pieces Words k ≡ codes "Cat" ∷ codes "cat" ∷ codes "dog" ∷ codes "sat" ∷ codes "the" ∷ []) × (piece_counts Words k ≡ 1 ∷ 2 ∷ 2 ∷ 1 ∷ 2 ∷ [])
    × (sorted_pieces Others k ≡ codes "\n" ∷ codes " " ∷ codes " & " ∷ codes "!\n" ∷ codes ", " ∷ []) × (piece_counts Others k ≡ 2 ∷ 3 ∷ 1 ∷ 1 ∷ 1 ∷ [])
unfolding parse
k_sorted = (refl, refl, refl, refl)

-- the same from the vocabulary
k_model : (sorted_of (vocabulary (all_pieces Words k)) ≡ sorted_pieces Words k) × (counts_of (vocabulary (all_pieces Words k)) ≡ piece_counts Words k) × (total (vocabulary (all_pieces Words k)) ≡ 8)
unfolding parse
k_model = (refl, refl, refl)

-- 18 for the words, 18 for the others, 13 for the heads
k_bits : (text_bits k ≡ 49) × (head_bits k ≡ 13)
unfolding parse gamma unary ones digits
k_bits = (refl, refl)

k_sat : map (satisfies (both (term (codes "cat")) (without (term (codes "the"))))) (documents k) ≡ false ∷ false ∷ true ∷ []
unfolding parse
k_sat = refl

-- ---- none, empty ones, and an open end

none : (documents [] ≡ []) × (has_open_end [] ≡ false) × (dictionary [] ≡ []) × (vocabulary (all_pieces Words []) ≡ []) × (text_bits [] ≡ 0)
none = (refl, refl, refl, refl, refl)

two_empty : (documents (2 ∷ 2 ∷ []) ≡ [] ∷ [] ∷ []) × (has_open_end (2 ∷ 2 ∷ []) ≡ false) × (closed_count (2 ∷ 2 ∷ []) ≡ 2)
two_empty = (refl, refl, refl)

two_empty_texts : (parse [] ≡ []) × (map (satisfies (without (term (codes "x")))) (documents (2 ∷ 2 ∷ [])) ≡ true ∷ true ∷ []) × (text_bits (2 ∷ 2 ∷ []) ≡ 2)
unfolding parse gamma unary ones digits
two_empty_texts = (refl, refl, refl)

open_end : (documents (codes "a" ++ 2 ∷ codes "b") ≡ codes "a" ∷ codes "b" ∷ []) × (has_open_end (codes "a" ++ 2 ∷ codes "b") ≡ true) × (closed_count (codes "a" ++ 2 ∷ codes "b") ≡ 1)
open_end = (refl, refl, refl)

-- ---- long pieces

full_word : parse (replicate 255 97) ≡ pair_of (replicate 255 97) [] ∷ []
unfolding parse
full_word = refl

long_word : (parse (replicate 256 97) ≡ pair_of (replicate 255 97) [] ∷ pair_of (codes "a") [] ∷ [])
    × (pieces (replicate 256 97) ≡ replicate 255 97 ∷ [] ∷ codes "a" ∷ [] ∷ []) × (dictionary (replicate 256 97) ≡ codes "a" ∷ replicate 255 97 ∷ [])
unfolding parse
long_word = (refl, refl, refl)

blanks : (parse (replicate 300 32) ≡ pair_of [] (replicate 255 32) ∷ pair_of [] (replicate 45 32) ∷ []) × (terms (replicate 300 32) ≡ [])
unfolding parse
blanks = (refl, refl)

-- bytes from 128 on are word bytes, and no letters: they stay as they are
high_bytes : (parse (128 ∷ 65 ∷ 255 ∷ 127 ∷ 48 ∷ []) ≡ pair_of (128 ∷ 65 ∷ 255 ∷ []) (127 ∷ []) ∷ pair_of (48 ∷ []) [] ∷ [])
    × (terms (128 ∷ 65 ∷ 255 ∷ 127 ∷ 48 ∷ []) ≡ (128 ∷ 97 ∷ 255 ∷ []) ∷ (48 ∷ []) ∷ [])
unfolding parse
high_bytes = (refl, refl)

-- ---- limits

limits_are : (version_1.collection ≡ 268435456) × (version_1.documents ≡ 1048576) × (version_1.pieces ≡ 1048576) × (version_2.collection ≡ 4294967295)
    × (version_2.documents ≡ 16777216) × (version_2.pieces ≡ 4194304) × (piece_bytes ≡ 255) × (held_bytes ≡ 268435456) × (greatest_budget ≡ 1073741824)
    × (default_budget ≡ 16777216) × (most_rotations ≡ 134217728)
limits_are = (refl, refl, refl, refl, refl, refl, refl, refl, refl, refl, refl)

-- a pool of the least budget holds as many occurrences as the least full run has, and one of the greatest as many as the greatest
caps_are : (run_cap least_budget ≡ least_cap) × (run_cap greatest_budget ≡ greatest_cap)
caps_are = (refl, refl)
