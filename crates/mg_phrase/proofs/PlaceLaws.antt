-- Laws of flags that go from one word of a document to the next.
use Rattle.std.proofs.Common.{◌≡◌, ℕ, zero, suc, ◌+◌, ◌≤◌, if◌then◌else◌, Bool, true, false, ◌&&◌, List, [], ◌∷◌, ◌++◌, length, take, drop, get_or, refl, sym, ◌∙◌, ap, arith, zero-add, inl, inr}
use Rattle.std.proofs.Math.ListN.{replicate}
use Rattle.std.proofs.lemmas.Bool.{cases_Bool}
use Rattle.std.proofs.lemmas.List.{take-append-drop}
use Rattle.mg_defs.specs.OnePass.{carry_on, complete, place_count_from}
use Rattle.mg_defs.specs.Phrases.{one_if, phrase_places}
use Rattle.mg_defs.specs.Terms.{folded, same_term, terms}
use Rattle.mg_laws.proofs.OnePassLaws.{one_pass}
use Rattle.mg_phrase.specs.Flags.{to_come}

-- ---- flags after a word

-- the flags behind a term, where the phrase stands before these words or does not
abbrev pub stepped : Bool → List (List ℕ) → List Bool → List ℕ → List Bool
stepped before [] flags t = flags
stepped before (w ∷ ws) [] t = []
stepped before (w ∷ ws) (flag ∷ flags) t = (before && same_term w t) ∷ stepped flag ws flags t

carries : (before : Bool) (ws : List (List ℕ)) (flags : List Bool) (t : List ℕ) → length ws ≤ length flags →
    carry_on t (if before then ws ∷ to_come ws flags else to_come ws flags) ≡ to_come ws (stepped before ws flags t)
unfolding to_come
carries true [] flags t le = refl
carries false [] flags t le = refl
carries before (w ∷ ws) [] t le = absurd (omega (arith, le))
carries true (w ∷ ws) (flag ∷ flags) t le =
    let more = carries flag ws flags t (omega (arith, le)) in
    elim (cases_Bool (same_term w t)) [
      | inl is ↦ rw is (ap (λ (xs : List (List (List ℕ))). ws ∷ xs) more)
      | inr isnt ↦ rw isnt more
    ]
carries false (w ∷ ws) (flag ∷ flags) t le = carries flag ws flags t (omega (arith, le))

completes : (w : List ℕ) (ws : List (List ℕ)) (flags : List Bool) → length (w ∷ ws) ≤ length flags → complete (to_come (w ∷ ws) flags) ≡ one_if (get_or flags (length ws) false)
unfolding to_come
completes w ws [] le = absurd (omega (arith, le))
completes w [] (true ∷ flags) le = refl
completes w [] (false ∷ flags) le = refl
completes w (v ∷ ws) (true ∷ flags) le = completes v ws flags (omega (arith, le))
completes w (v ∷ ws) (false ∷ flags) le = completes v ws flags (omega (arith, le))

drop-end : {X : Type 0} (n : ℕ) (xs : List X) → length xs ≤ n → drop n xs ≡ []
drop-end zero [] le = refl
drop-end (suc n) [] le = refl
drop-end zero (x ∷ xs) le = absurd (omega (arith, le))
drop-end (suc n) (x ∷ xs) le = drop-end n xs (omega (arith, le))

-- behind the last one
pub all_set : (ws : List (List ℕ)) (flags all : List Bool) (t : List ℕ) (before : Bool) (n : ℕ) → length ws ≤ n → all ≡ take n flags ++ stepped before (drop n ws) (drop n flags) t → flags ≡ all
all_set ws flags all t before n le e = let old = rw (drop-end n ws le) at e in sym (old ∙ take-append-drop n flags)

pub flags_carry : (ws : List (List ℕ)) (flags now : List Bool) (t : List ℕ) → length ws ≤ length flags → now ≡ stepped true ws flags t → to_come ws now ≡ carry_on t (ws ∷ to_come ws flags)
flags_carry ws flags now t le e = ap (to_come ws) e ∙ sym (carries true ws flags t le)

pub last_completes : (ws : List (List ℕ)) (flags : List Bool) (i : ℕ) → suc i ≡ length ws → length ws ≤ length flags → one_if (get_or flags i false) ≡ complete (to_come ws flags)
last_completes [] flags i e le = absurd (omega (arith, e))
last_completes (w ∷ ws) flags i e le = let same : i ≡ length ws = omega (arith, e) in rw same (sym (completes w ws flags le))

pub none_set : (ws : List (List ℕ)) (n : ℕ) → to_come ws (replicate n false) ≡ []
unfolding to_come
none_set [] n = refl
none_set (w ∷ ws) zero = refl
none_set (w ∷ ws) (suc n) = none_set ws n

-- ---- one word after another

pub counts_as : (b : Bool) → b ≡ true → one_if b ≡ 1
counts_as b e = rw e refl

pub counts_not : (b : Bool) → b ≡ false → one_if b ≡ 0
counts_not b e = rw e refl

pub from_word : (phrase : List (List ℕ)) (begun now : List (List (List ℕ))) (w : List ℕ) (ts : List (List ℕ)) → now ≡ carry_on (folded w) (phrase ∷ begun) →
    place_count_from phrase begun (folded w ∷ ts) ≡ complete now + place_count_from phrase now ts
unfolding place_count_from
from_word phrase begun now w ts e = rw e refl

pub from_none : (phrase : List (List ℕ)) (begun : List (List (List ℕ))) → place_count_from phrase begun [] ≡ 0
unfolding place_count_from
from_none phrase begun = refl

-- a phrase without words
counts_nothing : (ts : List (List ℕ)) → place_count_from [] [] ts ≡ 0
unfolding place_count_from
counts_nothing [] = refl
counts_nothing (t ∷ ts) = zero-add _ ∙ counts_nothing ts

pub whole_count : (phrase : List (List ℕ)) (doc : List ℕ) → place_count_from phrase [] (terms doc) ≡ phrase_places phrase doc
unfolding phrase_places
whole_count [] doc = counts_nothing (terms doc)
whole_count (w ∷ ws) doc = one_pass w ws doc
