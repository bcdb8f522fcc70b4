-- Words and their terms: where one of the two has bytes of words alone, so has the other.
use Rattle.std.proofs.Common.{arith, ◌≡◌, ◌≢◌, ℕ, List, [], ◌∷◌, get_or, slice_get, Some, refl, sym, subst, ◌∙◌}
use Rattle.std.specs.List.{AllByRecursion, prefix_len}
use Rattle.std.proofs.lemmas.Bool.Decides.{nat_tests}
use Rattle.std.proofs.lemmas.List.{length-map}
use Rattle.std.proofs.lemmas.List.Elements.{All-from_recursion, recursion_from_All}
use Rattle.std.proofs.lemmas.Option.{get_or_from_slice_get, slice_get-get_or}
use Rattle.mg_defs.specs.Parse.{is_word_byte}
use Rattle.mg_defs.specs.Sorted.{sorted_distinct}
use Rattle.mg_defs.specs.Terms.{fold_byte, folded, terms_of_words}
use Rattle.mg_defs.proofs.SortedLaws.{sorted-is}
use Rattle.mg_model.specs.Terms.{HasTerm, TermNumbers, terms_and_numbers}
use Rattle.mg_check_parts.specs.Words.{AreWords, IsWord}

-- ---- a word that is folded

fold_kind : (b : ℕ) → is_word_byte (fold_byte b) ≡ is_word_byte b
fold_kind b = grind (arith, nat_tests)

fold_run : (word : List ℕ) → prefix_len is_word_byte (folded word) ≡ prefix_len is_word_byte word
fold_run [] = refl
fold_run (b ∷ word) = rw (fold_kind b, fold_run word) refl

folded_word : (word : List ℕ) → IsWord word → IsWord (folded word)
folded_word word is = record {
  bytes = fold_run word ∙ is.bytes ∙ sym (length-map word fold_byte);
  short = omega (arith, length-map word fold_byte, is.short);
}

word_of_folded : (word : List ℕ) → IsWord (folded word) → IsWord word
word_of_folded word is = record {
  bytes = sym (fold_run word) ∙ is.bytes ∙ length-map word fold_byte;
  short = omega (arith, length-map word fold_byte, is.short);
}

-- ---- the terms of words

folded_words : (words : List (List ℕ)) → AllByRecursion IsWord words → AllByRecursion IsWord (terms_of_words words)
folded_words [] all = tt
folded_words ([] ∷ words) all = folded_words words all.1
folded_words ((b ∷ word) ∷ words) all = (folded_word (b ∷ word) all.0, folded_words words all.1)

-- the terms of words are words
pub terms_words : (words : List (List ℕ)) → AreWords words → AreWords (terms_and_numbers words).terms
terms_words words all = λ k d low.
    let each = All-from_recursion IsWord (terms_of_words words) (folded_words words (recursion_from_All IsWord words all)) in
    let there = (sorted-is (terms_of_words words)).each k d low in
    subst IsWord there.2 (each there.0 (get_or (sorted_distinct (terms_of_words words)) k d) there.1)

-- words whose terms are words are words, where each that is not empty has its term
pub words_of_terms : ((words : List (List ℕ)) (symbol : ℕ) (word : List ℕ) → slice_get words symbol ≡ Some word → word ≢ [] → HasTerm (terms_and_numbers words).terms word) →
    (t : TermNumbers) (pieces : List (List ℕ)) → t ≡ terms_and_numbers pieces → AreWords t.terms → AreWords pieces
words_of_terms has t pieces made all = λ k d low. word_at k (get_or pieces k d) (slice_get-get_or pieces k d low)
  where
    words : AreWords (terms_and_numbers pieces).terms
    words = subst (λ (u : TermNumbers). AreWords u.terms) made all

    word_at : (k : ℕ) (word : List ℕ) → slice_get pieces k ≡ Some word → IsWord word
    word_at k [] at = record { bytes = refl; short = omega arith }
    word_at k (b ∷ word) at =
        let term = has pieces k (b ∷ word) at (λ none. absurd cc) in
        word_of_folded (b ∷ word) (subst IsWord (get_or_from_slice_get (terms_and_numbers pieces).terms term.number (folded (b ∷ word)) [] term.term_is)
        (words term.number [] term.within))
