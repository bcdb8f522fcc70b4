-- Documents that are made of words, and the words of a collection.
use Rattle.std.proofs.Common.{arith, ◌≡◌, ◌<◌, ◌≤◌, ℕ, zero, suc, ◌==◌, Bool, true, not, List, [], ◌∷◌, ◌++◌, length, map, filter, get_or, slice_get, Some, take, All, refl, sym, ap, subst, ◌∙◌, inl, inr}
use Rattle.std.specs.List.{AllByRecursion, flat_map, list_any, prefix_len}
use Rattle.std.specs.Str.{bytes_eq}
use Rattle.std.proofs.lemmas.Bool.{cases_Bool, eqb-true}
use Rattle.std.proofs.lemmas.Grind.{common_steps}
use Rattle.std.proofs.lemmas.List.{length-map}
use Rattle.std.proofs.lemmas.List.Elements.{All-map, recursion_from_All}
use Rattle.mg_defs.specs.declared.Stream.TheVariants.{Words, Others}
use Rattle.mg_defs.specs.Parse.{ArePairs, EndsBefore, Pair, is_of_kind, is_word_byte, parse, text}
use Rattle.mg_defs.specs.Split.{documents}
use Rattle.mg_defs.specs.Terms.{folded, is_empty, terms_of_words}
use Rattle.mg_defs.specs.Vocabulary.{all_pieces, piece_of_pair, pieces_in, sorted_pieces}
use Rattle.mg_defs.proofs.ParseLaws.{front-passes, parse-is, parse-unique, parse_short}
use Rattle.mg_defs.proofs.SortedLaws.{has-from, same-is, sorted-is}
use Rattle.mg_check_parts.specs.Words.{AreWords, HasTermsOf, IsWord, pieces_of}

-- ---- the bytes of a word

abbrev AreOfWords : List ℕ → Type 0
AreOfWords bytes = AllByRecursion (λ b. is_of_kind Words b ≡ true) bytes

word_bytes : (word : List ℕ) → IsWord word → AreOfWords word
word_bytes word is =
    let all = front-passes Words (length word) word (omega (arith, is.bytes)) in
    subst AreOfWords (take_all word) all
  where
    take_all : (w : List ℕ) → take (length w) w ≡ w
    take_all [] = refl
    take_all (b ∷ w) = ap (λ ws. b ∷ ws) (take_all w)

word_run : (word : List ℕ) → AreOfWords word → prefix_len is_word_byte word ≡ length word
word_run [] all = refl
word_run (b ∷ word) all = let here : is_word_byte b ≡ true = all.0 in rw here (omega (arith, word_run word all.1))

-- ---- a word of a model

-- whether the bytes at the front that words have are all of a piece's tells whether it is a word
pub word_here : (pieces : List (List ℕ)) (s : ℕ) (piece : List ℕ) (r : Bool) → slice_get pieces s ≡ Some piece → length piece ≤ 255 →
    r ≡ (prefix_len is_word_byte piece == length piece) → r ≡ true → IsWord (get_or pieces s [])
word_here pieces s piece r at short told is =
    subst IsWord (sym (here pieces s at)) (record { bytes = eqb-true (prefix_len is_word_byte piece) (length piece) (sym told ∙ is); short = short })
  where
    here : (ps : List (List ℕ)) (k : ℕ) → slice_get ps k ≡ Some piece → get_or ps k [] ≡ piece
    here [] k h = absurd cc
    here (p ∷ ps) zero h = cc
    here (p ∷ ps) (suc k) h = here ps k h

-- all are words where so many are
pub all_words : (pieces : List (List ℕ)) (n : ℕ) → length pieces ≤ n → All IsWord (take n pieces) → AreWords pieces
all_words pieces n all first = subst (All IsWord) (whole pieces n all) first
  where
    whole : (ps : List (List ℕ)) (k : ℕ) → length ps ≤ k → take k ps ≡ ps
    whole ps k h = grind (arith, common_steps)

-- ---- a document of words

-- each word that is not empty, and a blank behind it
abbrev spaced : List (List ℕ) → List Pair
spaced [] = []
spaced ([] ∷ words) = spaced words
spaced ((b ∷ word) ∷ words) = record { word = b ∷ word; other = 32 ∷ [] } ∷ spaced words

begins : (words : List (List ℕ)) → AllByRecursion IsWord words → EndsBefore Others (text (spaced words))
begins [] all = tt
begins ([] ∷ words) all = begins words all.1
begins ((b ∷ word) ∷ words) all = let here : is_word_byte b ≡ true = (word_bytes (b ∷ word) all.0).0 in ap not here

are_pairs : (words : List (List ℕ)) → AllByRecursion IsWord words → ArePairs (spaced words)
are_pairs [] all = tt
are_pairs ([] ∷ words) all = are_pairs words all.1
are_pairs ((b ∷ word) ∷ words) all = (
  record { bytes = word_bytes (b ∷ word) all.0; short = all.0.short; ends = λ _. refl },
  record { bytes = (refl, tt); short = omega arith; ends = λ _. begins words all.1 },
  omega arith,
  are_pairs words all.1,
)

terms_spaced : (words : List (List ℕ)) → terms_of_words (map (λ (p : Pair). p.word) (spaced words)) ≡ terms_of_words words
terms_spaced [] = refl
terms_spaced ([] ∷ words) = terms_spaced words
terms_spaced ((b ∷ word) ∷ words) = ap (λ ts. folded (b ∷ word) ∷ ts) (terms_spaced words)

-- there is a document that has the terms of words
pub some_document : (words : List (List ℕ)) → AreWords words → (doc : List ℕ) × HasTermsOf words doc
some_document words all =
    let pairs = spaced words in
    let same = parse-unique (text pairs) pairs (record { each = are_pairs words (recursion_from_All IsWord words all); whole = refl }) in
    (text pairs, ap (λ (ps : List Pair). terms_of_words (map (λ (p : Pair). p.word) ps)) (sym same) ∙ terms_spaced words)

-- the pieces of symbols are words where all pieces are
pub words_of_symbols : (pieces : List (List ℕ)) (symbols : List ℕ) → AreWords pieces → All (λ s. s < length pieces) symbols → AreWords (pieces_of pieces symbols)
words_of_symbols pieces symbols all low = All-map IsWord (λ (s : ℕ). get_or pieces s []) symbols (λ k d lt. all (get_or symbols k d) [] (low k d lt))

-- ---- the words of a document

abbrev filled : List (List ℕ) → List (List ℕ)
filled words = filter (λ (w : List ℕ). not (is_empty w)) words

terms_filled : (words : List (List ℕ)) → terms_of_words (filled words) ≡ terms_of_words words
terms_filled [] = refl
terms_filled ([] ∷ words) = terms_filled words
terms_filled ((b ∷ word) ∷ words) = ap (λ ts. folded (b ∷ word) ∷ ts) (terms_filled words)

filled_few : (words : List (List ℕ)) → length (filled words) ≤ length words
filled_few [] = omega arith
filled_few ([] ∷ words) = omega (arith, filled_few words)
filled_few ((b ∷ word) ∷ words) = omega (arith, filled_few words)

-- a document has the terms of its words that are not empty
pub has_terms : (pieces : List (List ℕ)) (symbols doc : List ℕ) → pieces_of pieces symbols ≡ filled (map (λ (p : Pair). p.word) (parse doc)) → HasTermsOf (pieces_of pieces symbols) doc
has_terms pieces symbols doc is = sym (terms_filled (map (λ (p : Pair). p.word) (parse doc))) ∙ ap terms_of_words (sym is)

-- and no more of them than bytes
pub words_few : (pieces : List (List ℕ)) (symbols doc : List ℕ) → pieces_of pieces symbols ≡ filled (map (λ (p : Pair). p.word) (parse doc)) → length symbols ≤ length doc
words_few pieces symbols doc is =
    omega (
      arith,
      length-map symbols (λ (s : ℕ). get_or pieces s []),
      ap length is,
      filled_few (map (λ (p : Pair). p.word) (parse doc)),
      length-map (parse doc) (λ (p : Pair). p.word),
      parse_short doc,
    )

-- ---- the words of a collection

joined : (xs ys : List (List ℕ)) → AllByRecursion IsWord xs → AllByRecursion IsWord ys → AllByRecursion IsWord (xs ++ ys)
joined [] ys all more = more
joined (x ∷ xs) ys all more = (all.0, joined xs ys all.1 more)

pair_words : (pairs : List Pair) → ArePairs pairs → AllByRecursion IsWord (map (piece_of_pair Words) pairs)
pair_words [] all = tt
pair_words (p ∷ pairs) all = (record { bytes = word_run p.word all.0.bytes; short = all.0.short }, pair_words pairs all.3)

doc_words : (docs : List (List ℕ)) → AllByRecursion IsWord (flat_map (pieces_in Words) docs)
doc_words [] = tt
doc_words (doc ∷ docs) = joined (pieces_in Words doc) (flat_map (pieces_in Words) docs) (pair_words (parse doc) (parse-is doc).each) (doc_words docs)

word_among : (xs : List (List ℕ)) (s : List ℕ) → AllByRecursion IsWord xs → list_any (bytes_eq s) xs ≡ true → IsWord s
word_among [] s all h = absurd cc
word_among (x ∷ xs) s all h =
    elim (cases_Bool (bytes_eq s x)) [
      | inl same ↦ subst IsWord (sym (same-is s x same)) all.0
      | inr isnt ↦ word_among xs s all.1 (rw isnt at h)
    ]

-- each is a word
pub collection_words : (collection : List ℕ) → AreWords (sorted_pieces Words collection)
collection_words collection = λ k d low.
    let all = all_pieces Words collection in
    let word = get_or (sorted_pieces Words collection) k d in
    word_among all word (doc_words (documents collection)) (has-from all word ((sorted-is all).each k d low))
