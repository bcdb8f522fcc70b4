-- Laws of terms.
use Rattle.std.proofs.Common.{arith, ◌≡◌, ◌==◌, ◌+◌, ◌-◌, ℕ, zero, suc, ◌<◌, ◌≤◌, Bool, true, false, not, List, [], ◌∷◌, ◌++◌, length, get_or, refl, sym, ◌∙◌, ap, inl, inr, Contains, map, filter}
use Rattle.std.specs.List.{list_any, flat_map}
use Rattle.std.specs.Str.{bytes_eq}
use Rattle.std.proofs.lemmas.Bool.{and_right, or_cases, or_left, or_right, false≢true, cases_Bool}
use Rattle.std.proofs.lemmas.List.{length-map, map-append}
use Rattle.std.proofs.lemmas.List.Sums.{count_by-le-length, length-filter}
use Rattle.std.proofs.lemmas.List.Elements.{filter-append}
use Rattle.mg_defs.specs.declared.Stream.TheVariants.{Words}
use Rattle.mg_defs.specs.Split.{documents}
use Rattle.mg_defs.specs.Sorted.{IsSortedDistinct, sorted_distinct}
use Rattle.mg_defs.specs.Terms.{document, folded, is_empty, same_term, terms_of_words, terms, all_terms, dictionary, term_number}
use Rattle.mg_defs.specs.Vocabulary.{pieces_in, all_pieces, sorted_pieces}
use Rattle.mg_defs.proofs.SortedLaws.{distinct_short, same-is, same-refl, sorted-is, sorted-rising, rising-unique, has-sorted, has-from, contains-from, number-found, number-missing, number-at}

abbrev has : List (List ℕ) → List ℕ → Bool
has strings s = list_any (bytes_eq s) strings

-- document d stands in place d - 1
pub document_is : (collection : List ℕ) (d : ℕ) → 1 ≤ d → document collection d ≡ get_or (documents collection) (d - 1) []
document_is collection zero some = absurd (omega arith)
document_is collection (suc d) some = let place : d ≡ suc d - 1 = omega arith in ap (λ k. get_or (documents collection) k []) place

-- and the one behind d documents in place d
pub document_behind : (collection : List ℕ) (d : ℕ) → document collection (d + 1) ≡ get_or (documents collection) d []
document_behind collection d = let next : d + 1 ≡ suc d = omega arith in ap (document collection) next

-- ---- the terms are the folded words

terms-append : (xs ys : List (List ℕ)) → terms_of_words (xs ++ ys) ≡ terms_of_words xs ++ terms_of_words ys
terms-append xs ys = ap (map folded) (filter-append (λ w. not (is_empty w)) xs ys) ∙ map-append folded (filter (λ w. not (is_empty w)) xs) (filter (λ w. not (is_empty w)) ys)

terms-joined : (docs : List (List ℕ)) → flat_map terms docs ≡ terms_of_words (flat_map (pieces_in Words) docs)
terms-joined [] = refl
terms-joined (doc ∷ docs) = ap (λ (x : List (List ℕ)). terms doc ++ x) (terms-joined docs) ∙ sym (terms-append (pieces_in Words doc) (flat_map (pieces_in Words) docs))

term-there : (words : List (List ℕ)) (w : List ℕ) → is_empty w ≡ false → has words w ≡ true → has (terms_of_words words) (folded w) ≡ true
term-there [] w some h = absurd (false≢true h)
term-there (v ∷ words) w some h =
    elim (or_cases (bytes_eq w v) (has words w) h) [
      | inl here ↦ let e = same-is w v here in rw (sym e, some) (or_left (bytes_eq (folded w) (folded w)) (has (terms_of_words words) (folded w)) (same-refl (folded w)))
      | inr there ↦
          let more = term-there words w some there in
          elim (cases_Bool (is_empty v)) [
            | inl none ↦ rw none more
            | inr also ↦ rw also (or_right (bytes_eq (folded w) (folded v)) (has (terms_of_words words) (folded w)) more)
          ]
    ]

terms-kept : (xs ys : List (List ℕ)) → ((s : List ℕ) → has xs s ≡ true → has ys s ≡ true) → (t : List ℕ) → has (terms_of_words xs) t ≡ true → has (terms_of_words ys) t ≡ true
terms-kept [] ys h t i = absurd (false≢true i)
terms-kept (w ∷ xs) ys h t i =
    let later = terms-kept xs ys (λ s j. h s (or_right (bytes_eq s w) (has xs s) j)) t in
    elim (cases_Bool (is_empty w)) [
      | inl none ↦ later (rw none at i)
      | inr some ↦ elim (or_cases (bytes_eq t (folded w)) (has (terms_of_words xs) t) (rw some at i)) [
        | inl here ↦ rw (same-is t (folded w) here) (term-there ys w some (h w (or_left (bytes_eq w w) (has xs w) (same-refl w))))
        | inr there ↦ later there
      ]
    ]

-- no more terms than words
pub words_short : (words : List (List ℕ)) → length (terms_of_words words) ≤ length words
words_short words = omega (
  arith,
  length-map (filter (λ w. not (is_empty w)) words) folded,
  length-filter (λ w. not (is_empty w)) words,
  count_by-le-length (λ w. not (is_empty w)) words,
)

pub distinct-terms_short : (words : List (List ℕ)) → length (sorted_distinct (terms_of_words words)) ≤ length words
distinct-terms_short words = omega (arith, distinct_short (terms_of_words words), words_short words)

-- the dictionary is that of the distinct words
pub dictionary-of_words : (collection : List ℕ) → dictionary collection ≡ sorted_distinct (terms_of_words (sorted_pieces Words collection))
dictionary-of_words collection =
    let words = all_pieces Words collection in
    let sorted = sorted_pieces Words collection in
    ap sorted_distinct (terms-joined (documents collection)) ∙
    rising-unique (sorted_distinct (terms_of_words words)) (sorted_distinct (terms_of_words sorted)) (sorted-rising (terms_of_words words)) (sorted-rising (terms_of_words sorted))
    (λ t i. has-sorted (terms_of_words sorted) t ∙ terms-kept words sorted (λ s j. has-sorted words s ∙ j) t (sym (has-sorted (terms_of_words words) t) ∙ i))
    (λ t i. has-sorted (terms_of_words words) t ∙ terms-kept sorted words (λ s j. sym (has-sorted words s) ∙ j) t (sym (has-sorted (terms_of_words sorted) t) ∙ i))

-- ---- numbers of terms

pub dictionary-is : (collection : List ℕ) → IsSortedDistinct (all_terms collection) (dictionary collection)
dictionary-is collection = sorted-is (all_terms collection)

-- a term has the number of its place
pub term-number : (collection t : List ℕ) → Contains (all_terms collection) t → (term_number collection t < length (dictionary collection))
    × (get_or (dictionary collection) (term_number collection t) t ≡ t)
term-number collection t c = number-found (dictionary collection) t (has-sorted (all_terms collection) t ∙ has-from (all_terms collection) t c)

pub term-of_number : (collection : List ℕ) (k : ℕ) (d : List ℕ) → k < length (dictionary collection) → term_number collection (get_or (dictionary collection) k d) ≡ k
term-of_number collection k d l = number-at (dictionary collection) k d (sorted-rising (all_terms collection)) l

pub no-term : (collection t : List ℕ) → (Contains (all_terms collection) t → ⊥) → term_number collection t ≡ length (dictionary collection)
no-term collection t isnt =
    elim (cases_Bool (has (dictionary collection) t)) [
      | inl is ↦ absurd (isnt (contains-from (all_terms collection) t (sym (has-sorted (all_terms collection) t) ∙ is)))
      | inr none ↦ number-missing (dictionary collection) t none
    ]

-- ---- a word and a term

pub other_lengths : (a b : List ℕ) → (length a ≡ length b → ⊥) → same_term a b ≡ false
other_lengths [] [] ne = absurd (ne refl)
other_lengths [] (c ∷ b) ne = refl
other_lengths (d ∷ a) [] ne = refl
other_lengths (d ∷ a) (c ∷ b) ne = and_right (d == c) (same_term a b) (other_lengths a b (λ e. ne (ap suc e)))

length-folded : (w : List ℕ) → length (folded w) ≡ length w
length-folded [] = refl
length-folded (b ∷ w) = ap suc (length-folded w)

pub other_word : (word t : List ℕ) → (length word ≡ length t → ⊥) → same_term t (folded word) ≡ false
other_word word t ne = other_lengths t (folded word) (λ e. ne (sym (e ∙ length-folded word)))
