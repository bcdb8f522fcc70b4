-- For which lengths a code is refused, and why.
use Rattle.std.proofs.Common.{◌≡◌, ℕ, zero, suc, ◌^◌, ◌<◌, ◌≤◌, List, [], ◌∷◌, length, sym, ap, ◌∙◌, subst, arith, get_or, ⊎_elim, Result, Err, ◌↔◌}
use Rattle.std.proofs.lemmas.Bool.Decides.{nat_tests}
use Rattle.std.proofs.lemmas.Bool.{cases_lt}
use Rattle.mg_defs.specs.Canon.{kraft, AreCodeLengths, AreGood}
use Rattle.mg_defs.proofs.CanonLaws.{good_full, within_short}
use Rattle.mg_canon.specs.Refusals.{most_bits, IsLength, HaveLengths, IsFirstBad, IsUnfilled, Refuses}
use Rattle.mg_canon.specs.declared.canon_err.CanonErr.{CanonErr}
use Rattle.mg_canon.specs.declared.canon_err.CanonErr.TheVariants.{BadLength, Kraft, Memory}

pub most_many : (n : ℕ) → 2 ≤ n → most_bits n ≡ 48
most_many n h = grind (arith, nat_tests)

most_at_most : (n : ℕ) → most_bits n ≤ 48
most_at_most n = grind (arith, nat_tests)

pub short_enough : (n l : ℕ) → IsLength n l → l ≤ 48
short_enough n l is = omega (arith, most_at_most n, is.1)

-- each of good lengths is one that codewords may have
pub have_lengths : (lengths : List ℕ) → AreGood lengths → HaveLengths (length lengths) lengths
have_lengths [] good s h = absurd (omega arith)
have_lengths (l ∷ []) good zero h = (omega (arith, good), omega (arith, good))
have_lengths (l ∷ []) good (suc s) h = absurd (omega arith)
have_lengths (l ∷ m ∷ lengths) good s h =
    let w = within_short (l ∷ m ∷ lengths) s good.0 h in
    (w.0, omega (arith, most_many (length (l ∷ m ∷ lengths)) (omega arith), w.1))

within_from : (xs : List ℕ) → ((s : ℕ) → s < length xs → (1 ≤ get_or xs s 0) × (get_or xs s 0 ≤ 48)) → AreCodeLengths xs
within_from [] f = tt
within_from (x ∷ xs) f = (f 0 (omega arith), within_from xs (λ s h. f (suc s) (omega arith)))

-- lengths that codewords may have are at most 48
pub are_within : (lengths : List ℕ) → HaveLengths (length lengths) lengths → AreCodeLengths lengths
are_within lengths all = within_from lengths (λ s h. let p = all s h in (p.0, short_enough (length lengths) (get_or lengths s 0) p))

pub good_from : (lengths : List ℕ) → HaveLengths (length lengths) lengths → (2 ≤ length lengths → kraft lengths ≡ 2 ^ 48) → AreGood lengths
good_from [] all full = tt
good_from (l ∷ []) all full = let p = all 0 (omega arith) in omega (arith, p.0, p.1)
good_from (l ∷ m ∷ lengths) all full = (are_within (l ∷ m ∷ lengths) all, full (omega arith))

good_not_bad : (lengths : List ℕ) (s l : ℕ) → AreGood lengths → IsFirstBad lengths s l → ⊥
good_not_bad lengths s l good b = b.bad (subst (λ k. IsLength (length lengths) k) b.length_is (have_lengths lengths good s b.there))

good_not_unfilled : (lengths : List ℕ) (sum : ℕ) → AreGood lengths → IsUnfilled lengths sum → ⊥
good_not_unfilled lengths sum good u = u.other (u.sum_is ∙ good_full lengths good u.many)

unfilled_not_bad : (lengths : List ℕ) (sum s l : ℕ) → IsUnfilled lengths sum → IsFirstBad lengths s l → ⊥
unfilled_not_bad lengths sum s l u b = b.bad (subst (λ k. IsLength (length lengths) k) b.length_is (u.all s b.there))

not_before : (lengths : List ℕ) (s l t m : ℕ) → IsFirstBad lengths s l → IsFirstBad lengths t m → s < t → ⊥
not_before lengths s l t m a b lt = a.bad (subst (λ k. IsLength (length lengths) k) a.length_is (b.before s lt))

one_bad : (lengths : List ℕ) (s l t m : ℕ) → IsFirstBad lengths s l → IsFirstBad lengths t m → s ≡ t
one_bad lengths s l t m a b =
    ⊎_elim (λ lt. absurd (not_before lengths s l t m a b lt))
    (λ le. ⊎_elim (λ lt. absurd (not_before lengths t m s l b a lt)) (λ ge. omega arith) (cases_lt t s))
    (cases_lt s t)

-- a refusal with its cause comes exactly where the cause holds
pub refused_bad : {T : Type 0} (lengths : List ℕ) (r : Result T CanonErr) (e : CanonErr) (s l : ℕ) → r ≡ Err e → Refuses lengths e → (r ≡ Err (BadLength s l)) ↔ IsFirstBad lengths s l
refused_bad lengths r (BadLength t m) s l is b = (
  λ eq. let p : t ≡ s = cc in let q : m ≡ l = cc in subst (λ k. IsFirstBad lengths s k) q (subst (λ k. IsFirstBad lengths k m) p b),
  λ a. let p = one_bad lengths t m s l b a in let q : m ≡ l = sym b.length_is ∙ ap (λ k. get_or lengths k 0) p ∙ a.length_is in cc,
)
refused_bad lengths r (Kraft sum) s l is u = (λ eq. absurd cc, λ a. absurd (unfilled_not_bad lengths sum s l u a))
refused_bad lengths r Memory s l is none = absurd none

pub refused_kraft : {T : Type 0} (lengths : List ℕ) (r : Result T CanonErr) (e : CanonErr) (sum : ℕ) → r ≡ Err e → Refuses lengths e → (r ≡ Err (Kraft sum)) ↔ IsUnfilled lengths sum
refused_kraft lengths r (BadLength t m) sum is b = (λ eq. absurd cc, λ u. absurd (unfilled_not_bad lengths sum t m u b))
refused_kraft lengths r (Kraft other) sum is v = (
  λ eq. let p : other ≡ sum = cc in subst (λ k. IsUnfilled lengths k) p v,
  λ u. let p : other ≡ sum = v.sum_is ∙ sym u.sum_is in cc,
)
refused_kraft lengths r Memory sum is none = absurd none

-- the lengths of a code are refused for want of memory alone
pub never_bad : {T : Type 0} (lengths : List ℕ) (r : Result T CanonErr) (s l : ℕ) → AreGood lengths → (r ≡ Err (BadLength s l) → ⊥) → (r ≡ Err (BadLength s l)) ↔ IsFirstBad lengths s l
never_bad lengths r s l good never = (λ eq. absurd (never eq), λ b. absurd (good_not_bad lengths s l good b))

pub never_kraft : {T : Type 0} (lengths : List ℕ) (r : Result T CanonErr) (sum : ℕ) → AreGood lengths → (r ≡ Err (Kraft sum) → ⊥) → (r ≡ Err (Kraft sum)) ↔ IsUnfilled lengths sum
never_kraft lengths r sum good never = (λ eq. absurd (never eq), λ u. absurd (good_not_unfilled lengths sum good u))
