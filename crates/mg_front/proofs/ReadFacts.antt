-- What the steps of reading an entry tell.
use Rattle.std.proofs.Common.{arith, ◌≡◌, ◌+◌, ◌≤◌, ◌<◌, ◌==◌, ◌&&◌, ◌||◌, ◌++◌, ℕ, Bool, false, true, not, ◌⊎◌, inl, inr, List, [], ◌∷◌}
use Rattle.std.proofs.Common.{length, take, drop, Some, None, refl, sym, ◌∙◌, ap, subst, length-drop, length-take, cond, nat_le, slice_get, IsSome, IfOk, Result, Ok, Err}
use Rattle.std.specs.declared.option.Option.{Option}
use Rattle.std.proofs.lemmas.Bool.Decides.{nat_tests}
use Rattle.std.proofs.lemmas.List.{drop_more, drop_all, drop-drop, take-take, drop_at}
use Rattle.std.proofs.lemmas.Option.{slice_get_within, get_or_from_slice_get, slice_get-get_or}
use Rattle.std.proofs.lemmas.Bool.{cases_lt}
use Rattle.mg_dev.specs.Files.{Files, bytes_at}
use Rattle.mg_defs.specs.Front.{Found, is_below, rises_after_prefix, read_whole, read_cut}
use Rattle.mg_front.specs.Entries.{IsPut}

-- a told fact, at the files and the name of an earlier step
pub told_as : (P : List ℕ → Type 0) (f g : Option Files) (m n : List ℕ) → g ≡ f → n ≡ m → (IsSome g → P (bytes_at g n)) → IsSome f → P (bytes_at f m)
told_as P f g m n e d fact told = subst (λ h. P (bytes_at h m)) e (subst (λ k. P (bytes_at g k)) d (fact (subst IsSome (sym e) told)))

-- what follows from what an answer tells
pub if_ok : {T E : Type 0} (r : Result T E) (P Q : T → Type 0) → ((x : T) → P x → Q x) → IfOk r P → IfOk r Q
if_ok (Ok x) P Q more fact = more x fact
if_ok (Err e) P Q more fact = tt

pub head_is : (bytes : List ℕ) (at n : ℕ) → Some n ≡ slice_get bytes at → drop at bytes ≡ n ∷ drop (at + 1) bytes
head_is bytes at n e = drop_more bytes at n (slice_get_within bytes at n (sym e)) ∙ ap (λ m. m ∷ drop (at + 1) bytes) (get_or_from_slice_get bytes at n n (sym e))

pub no_head : (bytes : List ℕ) (at : ℕ) → None ≡ slice_get bytes at → drop at bytes ≡ []
no_head bytes at e = by_order (cases_lt at (length bytes))
  where
    none_is_not : {x : ℕ} → None ≡ Some x → ⊥
    none_is_not h = cc

    by_order : (at < length bytes) ⊎ (length bytes ≤ at) → drop at bytes ≡ []
    by_order (inl there) = absurd (none_is_not (e ∙ slice_get-get_or bytes at 0 there))
    by_order (inr past) = drop_all at bytes past

fails : (b : Bool) (x : Found) → b ≡ false → cond b (Some x) None ≡ None
fails b x e = ap (λ t. cond t (Some x) None) e

passes : (b : Bool) (x : Found) → b ≡ true → cond b (Some x) None ≡ Some x
passes b x e = ap (λ t. cond t (Some x) None) e

first_false : (b c : Bool) → b ≡ false → (b && c) ≡ false
first_false b c e = ap (λ t. t && c) e

then_false : (b c : Bool) → c ≡ false → (b && c) ≡ false
then_false true c e = e
then_false false c e = refl

first_true : (b c : Bool) → b ≡ true → c ≡ true → (b && c) ≡ true
first_true b c e f = ap (λ t. t && c) e ∙ f

le_true : (a b : ℕ) → a ≤ b → nat_le a b ≡ true
le_true a b h = grind (arith, nat_tests)

le_false : (a b : ℕ) → b < a → nat_le a b ≡ false
le_false a b h = grind (arith, nat_tests)

module _ (width i : ℕ) (before bytes : List ℕ) (at : ℕ) where
  pub whole_no_head : None ≡ slice_get bytes at → read_whole width i before (drop at bytes) ≡ None
  whole_no_head e = ap (read_whole width i before) (no_head bytes at e)

  pub whole_short : (n : ℕ) → Some n ≡ slice_get bytes at → length (drop (at + 1) bytes) < n + width → read_whole width i before (drop at bytes) ≡ None
  whole_short n e short = ap (read_whole width i before) (head_is bytes at n e) ∙ fails _ _ (then_false _ _ (first_false _ _ (le_false (n + width) (length (drop (at + 1) bytes)) short)))

  pub whole_no_follow : (n : ℕ) (s : List ℕ) → Some n ≡ slice_get bytes at → s ≡ take n (drop (at + 1) bytes) → (i == 0 || is_below before s) ≡ false → read_whole width i before (drop at bytes) ≡ None
  whole_no_follow n s e is above =
      ap (read_whole width i before) (head_is bytes at n e) ∙ fails _ _ (then_false _ _ (then_false _ _ (ap (λ t. i == 0 || is_below before t) (sym is) ∙ above)))

  pub whole_yes : (n : ℕ) (s f : List ℕ) (size : ℕ) → Some n ≡ slice_get bytes at → n ≤ 255 → s ≡ take n (drop (at + 1) bytes) →
      n ≤ length (drop (at + 1) bytes) → f ≡ take width (drop (at + 1 + n) bytes) → width ≤ length (drop (at + 1 + n) bytes) →
      (i == 0 || is_below before s) ≡ true → size ≡ n + width + 1 → read_whole width i before (drop at bytes) ≡ Some (record { entry = record { string = s; field = f }; size = size })
  whole_yes n s f size e small is enough is_field far above count =
      ap (read_whole width i before) (head_is bytes at n e)
      ∙ passes _ _
      (first_true _ _ (le_true _ _ small) (first_true _ _
      (le_true (n + width) (length (drop (at + 1) bytes)) (omega (arith, length-drop (at + 1 + n) bytes, length-drop (at + 1) bytes)))
      (ap (λ t. i == 0 || is_below before t) (sym is) ∙ above)))
      ∙ ap Some (λ j. record { entry = record { string = sym is j; field = field_is j }; size = sym count j })
    where
      field_is : take width (drop n (drop (at + 1) bytes)) ≡ f
      field_is = ap (take width) (drop-drop n (at + 1) bytes) ∙ sym is_field

-- what was put at the front of a buffer
pub put_first : (old new : List ℕ) (count n at : ℕ) (bytes : List ℕ) → count ≡ n → IsPut true old new 0 count at bytes → (take n new ≡ take n (drop at bytes)) × (n ≤ length (drop at bytes))
put_first old new count n at bytes e put = (ap (λ m. take m new) (omega arith) ∙ put.0 ∙ ap (λ m. take m (drop at bytes)) e, omega (arith, put.1))

pub was_true : (b : Bool) → not b ≡ true → b ≡ false
was_true true h = absurd cc
was_true false h = refl

pub was_false : (b : Bool) → not b ≡ false → b ≡ true
was_false true h = refl
was_false false h = absurd cc

module _ (width : ℕ) (before bytes : List ℕ) (at : ℕ) where
  pub cut_no_head : None ≡ slice_get bytes at → read_cut width before (drop at bytes) ≡ None
  cut_no_head e = ap (read_cut width before) (no_head bytes at e)

  pub cut_no_more : (k : ℕ) → Some k ≡ slice_get bytes at → None ≡ slice_get bytes (at + 1) → read_cut width before (drop at bytes) ≡ None
  cut_no_more k e f = ap (read_cut width before) (head_is bytes at k e ∙ ap (λ t. k ∷ t) (no_head bytes (at + 1) f))

  heads : (k n : ℕ) → Some k ≡ slice_get bytes at → Some n ≡ slice_get bytes (at + 1) → drop at bytes ≡ k ∷ n ∷ drop (at + 2) bytes
  heads k n e f = head_is bytes at k e ∙ ap (λ t. k ∷ t) (head_is bytes (at + 1) n f ∙ ap (λ m. n ∷ drop m bytes) (omega arith))

  pub cut_long : (k n : ℕ) → Some k ≡ slice_get bytes at → Some n ≡ slice_get bytes (at + 1) → length before < k → read_cut width before (drop at bytes) ≡ None
  cut_long k n e f long = ap (read_cut width before) (heads k n e f) ∙ fails _ _ (first_false _ _ (le_false k (length before) long))

  pub cut_over : (k n : ℕ) → Some k ≡ slice_get bytes at → Some n ≡ slice_get bytes (at + 1) → 255 < k + n → read_cut width before (drop at bytes) ≡ None
  cut_over k n e f long = ap (read_cut width before) (heads k n e f) ∙ fails _ _ (then_false _ _ (first_false _ _ (le_false (k + n) 255 long)))

  pub cut_short : (k n : ℕ) → Some k ≡ slice_get bytes at → Some n ≡ slice_get bytes (at + 1) → length (drop (at + 2) bytes) < n + width → read_cut width before (drop at bytes) ≡ None
  cut_short k n e f short = ap (read_cut width before) (heads k n e f) ∙ fails _ _ (then_false _ _ (then_false _ _ (first_false _ _ (le_false (n + width) (length (drop (at + 2) bytes)) short))))

  pub cut_no_rise : (k n : ℕ) (s : List ℕ) → Some k ≡ slice_get bytes at → Some n ≡ slice_get bytes (at + 1) → s ≡ take n (drop (at + 2) bytes) →
      rises_after_prefix (drop k before) s ≡ false → read_cut width before (drop at bytes) ≡ None
  cut_no_rise k n s e f is above =
      ap (read_cut width before) (heads k n e f) ∙ fails (nat_le k (length before)
      && (nat_le (k + n) 255 && (nat_le (n + width) (length (drop (at + 2) bytes)) && rises_after_prefix (drop k before) (take n (drop (at + 2) bytes))))) _
      (then_false (nat_le k (length before)) _ (then_false (nat_le (k + n) 255) _
      (then_false (nat_le (n + width) (length (drop (at + 2) bytes))) _ (ap (rises_after_prefix (drop k before)) (sym is) ∙ above))))

  pub cut_yes : (k n : ℕ) (string s f : List ℕ) (size : ℕ) → Some k ≡ slice_get bytes at → Some n ≡ slice_get bytes (at + 1) → k ≤ length before → k + n ≤ 255 →
      s ≡ take n (drop (at + 2) bytes) → n ≤ length (drop (at + 2) bytes) →
      f ≡ take width (drop (at + 2 + n) bytes) → width ≤ length (drop (at + 2 + n) bytes) → rises_after_prefix (drop k before) s ≡ true → string ≡ take k before ++ s → size ≡ n + width + 2 →
      read_cut width before (drop at bytes) ≡ Some (record { entry = record { string = string; field = f }; size = size })
  cut_yes k n string s f size e d within small is enough is_field far above all count =
      ap (read_cut width before) (heads k n e d)
      ∙ passes _ _ (first_true _ _ (le_true _ _ within) (first_true _ _ (le_true _ _ small)
      (first_true _ _ (le_true (n + width) (length (drop (at + 2) bytes)) (omega (arith, length-drop (at + 2 + n) bytes, length-drop (at + 2) bytes)))
      (ap (rises_after_prefix (drop k before)) (sym is) ∙ above))))
      ∙ ap Some (λ j. record { entry = record { string = string_is j; field = field_is j }; size = sym count j })
    where
      field_is : take width (drop n (drop (at + 2) bytes)) ≡ f
      field_is = ap (take width) (drop-drop n (at + 2) bytes) ∙ sym is_field

      string_is : take k before ++ take n (drop (at + 2) bytes) ≡ string
      string_is = ap (λ t. take k before ++ t) (sym is) ∙ sym all

-- a suffix put behind a prefix of the string before
pub put_after : (old new : List ℕ) (length_before k n total at : ℕ) (bytes : List ℕ) → total ≡ k + n → k ≤ length (take length_before old) → IsPut true old new k n at bytes →
    (take total new ≡ take k (take length_before old) ++ take n (drop at bytes)) × (drop k (take total new) ≡ take n (drop at bytes)) × (n ≤ length (drop at bytes))
put_after old new l k n total at bytes t within put =
    let small : k ≤ l = omega (arith, length-take l old) in
    let cut : take k (take l old) ≡ take k old = take-take k l old small in
    let all : take total new ≡ take k old ++ take n (drop at bytes) = ap (λ m. take m new) t ∙ put.0 in
    let long : length (take k old) ≡ k = simp length-take (omega (arith, length-take l old)) in
    (all ∙ ap (λ u. u ++ take n (drop at bytes)) (sym cut), ap (drop k) all ∙ drop_at (take k old) (take n (drop at bytes)) k long, omega (arith, put.1))
