-- Laws of marks: what a word's mark tells of the phrase's terms, and how a count goes on by it.
use Rattle.std.proofs.Common.{◌≡◌, ◌⊎◌, ◌≤◌, ◌<◌, ℕ, ◌+◌, Bool, true, false, List, [], ◌∷◌, length, get_or, Some, refl, sym, ◌∙◌, ap, arith, inl, inr, zero-add}
use Rattle.std.specs.Prelude.{slice_get}
use Rattle.std.proofs.Math.ListN.{replicate}
use Rattle.std.proofs.lemmas.Bool.{cases_Bool}
use Rattle.std.proofs.lemmas.Bool.Decides.{eqb_tells}
use Rattle.std.proofs.lemmas.List.{get_or_read}
use Rattle.std.proofs.lemmas.Slice.Eq.{bytes_eq-Decides}
use Rattle.std.proofs.lemmas.Str.Ascii.{lowercase-lowercase}
use Rattle.mg_defs.specs.OnePass.{carry_on, complete, place_count_from}
use Rattle.mg_defs.specs.Phrases.{one_if, phrase_places}
use Rattle.mg_defs.specs.Terms.{fold_byte, folded, same_term, terms, terms_of_words}
use Rattle.mg_phrase.specs.Flags.{to_come}
use Rattle.mg_phrase.specs.Marks.{Counting, KeepsMark, MarksFit, mark_of, place_in, places_with}
use Rattle.mg_phrase.proofs.PlaceLaws.{from_none, from_word, none_set, whole_count}

-- ---- the term of a place

place_is : (ws : List (List ℕ)) (t : List ℕ) → place_in ws t < length ws → get_or ws (place_in ws t) [] ≡ t
place_is [] t lt = absurd (omega (arith, lt))
place_is (w ∷ ws) t lt = elim (cases_Bool (same_term w t)) [
  | inl is ↦ rw is ((bytes_eq-Decides w t).0 is)
  | inr isnt ↦ let less = rw isnt at lt in rw isnt (place_is ws t (omega (arith, less)))
]

-- of fewer terms a term is none either
none_less : (w : List ℕ) (ws : List (List ℕ)) (t : List ℕ) → length (w ∷ ws) ≤ place_in (w ∷ ws) t → length ws ≤ place_in ws t
none_less w ws t none = elim (cases_Bool (same_term w t)) [
  | inl is ↦ let no = rw is at none in absurd (omega (arith, no))
  | inr isnt ↦ let less = rw isnt at none in omega (arith, less)
]

-- a term that is none of them carries nothing on
carries_no_list : (ws : List (List ℕ)) (begun : List (List (List ℕ))) (t : List ℕ) → length ws ≤ place_in ws t → carry_on t (ws ∷ begun) ≡ carry_on t begun
carries_no_list [] begun t none = refl
carries_no_list (w ∷ ws) begun t none = elim (cases_Bool (same_term w t)) [
  | inl is ↦ let no = rw is at none in absurd (omega (arith, no))
  | inr isnt ↦ rw isnt refl
]

carries_none : (ws : List (List ℕ)) (flags : List Bool) (t : List ℕ) → length ws ≤ place_in ws t → carry_on t (to_come ws flags) ≡ []
unfolding to_come
carries_none [] flags t none = refl
carries_none (w ∷ ws) [] t none = refl
carries_none (w ∷ ws) (true ∷ flags) t none = carries_no_list ws (to_come ws flags) t (none_less w ws t none) ∙ carries_none ws flags t (none_less w ws t none)
carries_none (w ∷ ws) (false ∷ flags) t none = carries_none ws flags t (none_less w ws t none)

folded_twice : (w : List ℕ) → folded (folded w) ≡ folded w
folded_twice [] = refl
folded_twice (b ∷ w) = ap (λ c. c ∷ folded (folded w)) (lowercase-lowercase b) ∙ ap (λ v. fold_byte b ∷ v) (folded_twice w)

-- ---- a count goes on

-- no word was taken
pub none_counted : (phrase same : List (List ℕ)) (doc : List ℕ) → same ≡ phrase → 0 + place_count_from same (to_come same (replicate 64 false)) (terms doc) ≡ phrase_places phrase doc
none_counted phrase same doc is = zero-add _ ∙ ap (λ begun. place_count_from same begun (terms doc)) (none_set same 64) ∙ whole_count same doc ∙ ap (λ p. phrase_places p doc) is

pub nothing_more : (c : Counting) → c.places ≡ places_with c []
nothing_more c = omega (arith, from_none c.phrase c.begun)

pub mark_empty : (phrase : List (List ℕ)) (begun : List (List (List ℕ))) (places mark : ℕ) (word : List ℕ) (words : List (List ℕ)) → mark < 2 → mark ≡ mark_of phrase word →
    places + place_count_from phrase begun (terms_of_words words) ≡ places + place_count_from phrase begun (terms_of_words (word ∷ words))
mark_empty phrase begun places mark [] words lt is = refl
mark_empty phrase begun places mark (b ∷ word) words lt is = absurd (omega (arith, lt, is))

-- by a word that is no word of the phrase
pub mark_other : (phrase : List (List ℕ)) (flags : List Bool) (places mark : ℕ) (word : List ℕ) (words : List (List ℕ)) → length phrase + 2 ≤ mark → mark ≡ mark_of phrase word →
    places + place_count_from phrase (to_come phrase (replicate 64 false)) (terms_of_words words) ≡ places + place_count_from phrase (to_come phrase flags) (terms_of_words (word ∷ words))
mark_other phrase flags places mark [] words le is = absurd (omega (arith, le, is))
mark_other phrase flags places mark (b ∷ word) words le is =
    let t = folded (b ∷ word) in
    let none : length phrase ≤ place_in phrase t = omega (arith, le, is) in
    let now : to_come phrase (replicate 64 false) ≡ carry_on t (phrase ∷ to_come phrase flags) =
    none_set phrase 64 ∙ sym (carries_no_list phrase (to_come phrase flags) t none ∙ carries_none phrase flags t none) in
    let step = from_word phrase (to_come phrase flags) (to_come phrase (replicate 64 false)) (b ∷ word) (terms_of_words words) now in
    omega (arith, step, ap complete (none_set phrase 64))

-- by a word of the phrase
pub mark_term : (phrase : List (List ℕ)) (flags now : List Bool) (places more mark place : ℕ) (done : Bool) (term word : List ℕ) (words : List (List ℕ)) → place < length phrase → place + 2 ≡ mark →
    term ≡ get_or phrase place term → mark ≡ mark_of phrase word → to_come phrase now ≡ carry_on (folded term) (phrase ∷ to_come phrase flags) → one_if done ≡ complete (to_come phrase now) →
    more ≡ places + one_if done →
    more + place_count_from phrase (to_come phrase now) (terms_of_words words) ≡ places + place_count_from phrase (to_come phrase flags) (terms_of_words (word ∷ words))
mark_term phrase flags now places more mark place done term [] words lt at read is carried ends counted = absurd (omega (arith, at, is))
mark_term phrase flags now places more mark place done term (b ∷ word) words lt at read is carried ends counted =
    let t = folded (b ∷ word) in
    let there : place ≡ place_in phrase t = omega (arith, at, is) in
    let term_is : term ≡ t = get_or_read phrase place term lt read [] ∙ ap (λ i. get_or phrase i []) there ∙ place_is phrase t (omega (arith, lt, there)) in
    let step = from_word phrase (to_come phrase flags) (to_come phrase now) (b ∷ word) (terms_of_words words)
    (carried ∙ ap (λ u. carry_on (folded u) (phrase ∷ to_come phrase flags)) term_is ∙ ap (λ u. carry_on u (phrase ∷ to_come phrase flags)) (folded_twice (b ∷ word))) in
    omega (arith, step, ends, counted)

-- ---- a mark is kept

pub fit_kept : (pieces phrase : List (List ℕ)) (old new : List ℕ) (symbol mark : ℕ) (word : List ℕ) → KeepsMark symbol mark old new → mark ≡ mark_of phrase word → slice_get pieces symbol ≡ Some word →
    MarksFit pieces (record { phrase = phrase; marks = old }) → MarksFit pieces (record { phrase = phrase; marks = new })
fit_kept pieces phrase old new symbol mark word kept is at fit other piece there some = elim (eqb_tells other symbol) [
  | inl same ↦ fit_there same.1 kept.there
  | inr apart ↦ let stays = kept.others other apart.1 in stays ∙ fit other piece there (λ none. some (stays ∙ none))
]
  where
    fit_there : other ≡ symbol → (get_or new symbol 0 ≡ mark) ⊎ (get_or new symbol 0 ≡ get_or old symbol 0) → get_or new other 0 ≡ mark_of phrase piece
    fit_there same (inl new_is) =
        let word_is : word ≡ piece = cc (at, there, same) in
        ap (λ s. get_or new s 0) same ∙ new_is ∙ is ∙ ap (mark_of phrase) word_is
    fit_there same (inr stays) =
        let as_before : get_or new other 0 ≡ get_or old other 0 = ap (λ s. get_or new s 0) same ∙ stays ∙ ap (λ s. get_or old s 0) (sym same) in
        as_before ∙ fit other piece there (λ none. some (as_before ∙ none))
