-- Laws of the logarithm and of the square root.
use Rattle.std.proofs.Common.{◌≡◌, ℕ, zero, suc, ◌+◌, ◌*◌, ◌/◌, ◌^◌, ◌<◌, ◌≤◌, inl, inr, true, false, refl, sym, ap, subst, arith, lit≤, lit<}
use Rattle.std.specs.Prelude.{nat_le}
use Rattle.std.proofs.lemmas.Bool.{cond_both, leb-true, leb-false, cases_lt, cond-true, cond-false, le-leb, lt-leb}
use Rattle.std.proofs.lemmas.Nat.{pow_pos, mul-le}
use Rattle.std.proofs.Math.Nat.{two-pow-succ, pow-le-pow_right, mul-div-mul_left}
use lib.Ieee.Nearest.{div_mono}
use Rattle.mg_defs.specs.Codes.{log2, log2_below}
use Rattle.mg_defs.specs.Fixed.{square, digit, next, digits_of, lg, IsRoot, root_from, isqrt}

-- ---- the whole part

pub record IsLog (x e : ℕ) : Type 0 where
  pub low : 2 ^ e ≤ x
  pub high : x < 2 ^ suc e

pub log_within : (n x : ℕ) → 1 ≤ x → x < 2 ^ n → IsLog x (log2_below n x)
log_within zero x some small = absurd (omega arith)
log_within (suc n) x some small =
    cond_both (nat_le (2 ^ n) x) n (log2_below n x) (IsLog x)
    (λ t. record { low = leb-true (2 ^ n) x t; high = small })
    (λ f. log_within n x some (leb-false (2 ^ n) x f))

pub is_log : (x : ℕ) → 1 ≤ x → x < 2 ^ 64 → IsLog x (log2 x)
is_log x some small = log_within 64 x some small

pub log_rises : (x y a b : ℕ) → x ≤ y → IsLog x a → IsLog y b → a ≤ b
log_rises x y a b le p q =
    elim (cases_lt b a) [
      | inl lt ↦ absurd (let up : 2 ^ suc b ≤ 2 ^ a = pow-le-pow_right (lit< tt) (omega (arith, lt)) in omega (arith, up, p.low, q.high))
      | inr ge ↦ ge
    ]

pub one_log : (x a b : ℕ) → IsLog x a → IsLog x b → a ≡ b
one_log x a b p q = omega (arith, log_rises x x a b (omega arith) p q, log_rises x x b a (omega arith) q p)

pub log_doubles : (x a : ℕ) → IsLog x a → IsLog (2 * x) (suc a)
log_doubles x a p = record {
  low = omega (arith, two-pow-succ a, p.low);
  high = omega (arith, two-pow-succ (suc a), p.high);
}

-- ---- the digits

pub record Step (y d z : ℕ) : Type 0 where
  pub digit_is : digit y ≡ d
  pub next_is : next y ≡ z

pub small_step : (y : ℕ) → square y < 2 ^ 32 → Step y 0 (square y)
unfolding digit next
small_step y h = let f : nat_le (2 ^ 32) (square y) ≡ false = lt-leb (2 ^ 32) (square y) h in record { digit_is = cond-false _ 1 0 f; next_is = cond-false _ (square y / 2) (square y) f }

pub large_step : (y : ℕ) → 2 ^ 32 ≤ square y → Step y 1 (square y / 2)
unfolding digit next
large_step y h = let t : nat_le (2 ^ 32) (square y) ≡ true = le-leb (2 ^ 32) (square y) h in record { digit_is = cond-true _ 1 0 t; next_is = cond-true _ (square y / 2) (square y) t }

pub digits_next : (n y d z : ℕ) → Step y d z → digits_of (suc n) y ≡ d * 2 ^ n + digits_of n z
unfolding digits_of
digits_next n y d z s = rw (s.digit_is, s.next_is)

pub digits_below : (n y : ℕ) → digits_of n y < 2 ^ n
unfolding digits_of
digits_below zero y = lit< tt
digits_below (suc n) y =
    elim (cases_lt (square y) (2 ^ 32)) [
      | inl lt ↦ omega (arith, digits_next n y 0 (square y) (small_step y lt), digits_below n (square y), two-pow-succ n)
      | inr ge ↦ omega (arith, digits_next n y 1 (square y / 2) (large_step y ge), digits_below n (square y / 2), two-pow-succ n)
    ]

square_rises : (y z : ℕ) → y ≤ z → square y ≤ square z
square_rises y z le = div_mono (y * y) (2 ^ 31) (z * z) (2 ^ 31) (lit< tt) (lit< tt) (mul-le (y * y) (2 ^ 31) (z * z) (2 ^ 31) (mul-le y y z z le le) (omega arith))

half_rises : (a b : ℕ) → a ≤ b → a / 2 ≤ b / 2
half_rises a b le = omega (arith, le)

pub digits_rise : (n y z : ℕ) → y ≤ z → digits_of n y ≤ digits_of n z
unfolding digits_of
digits_rise zero y z le = lit≤ tt
digits_rise (suc n) y z le =
    let more = square_rises y z le in
    elim (cases_lt (square y) (2 ^ 32)) [
      | inl lt ↦ elim (cases_lt (square z) (2 ^ 32)) [
        | inl lt2 ↦ omega (arith, digits_next n y 0 (square y) (small_step y lt), digits_next n z 0 (square z) (small_step z lt2), digits_rise n (square y) (square z) more)
        | inr ge2 ↦ omega (arith, digits_next n y 0 (square y) (small_step y lt), digits_next n z 1 (square z / 2) (large_step z ge2), digits_below n (square y))
      ]
      | inr ge ↦
          let ge2 : 2 ^ 32 ≤ square z = omega (arith, more, ge) in
          omega (
            arith,
            digits_next n y 1 (square y / 2) (large_step y ge),
            digits_next n z 1 (square z / 2) (large_step z ge2),
            digits_rise n (square y / 2) (square z / 2) (half_rises (square y) (square z) more),
          )
    ]

-- ---- the law of the logarithm

pub lg-is : (x e : ℕ) → log2 x ≡ e → lg x ≡ 256 * e + digits_of 8 (x * 2 ^ 31 / 2 ^ e)
unfolding lg
lg-is x e h = rw h

pub lg_rises : (x y : ℕ) → 1 ≤ x → x ≤ y → y < 2 ^ 64 → lg x ≤ lg y
lg_rises x y some le small =
    let p = is_log x some (omega (arith, le, small)) in
    let q = is_log y (omega (arith, some, le)) small in
    let order = log_rises x y (log2 x) (log2 y) le p q in
    elim (cases_lt (log2 x) (log2 y)) [
      | inl lt ↦ omega (arith, lg-is x (log2 x) refl, lg-is y (log2 y) refl, digits_below 8 (x * 2 ^ 31 / 2 ^ log2 x), lt)
      | inr ge ↦
          let same : log2 y ≡ log2 x = omega (arith, order, ge) in
          let mant : x * 2 ^ 31 / 2 ^ log2 x ≤ y * 2 ^ 31 / 2 ^ log2 x =
          div_mono (x * 2 ^ 31) (2 ^ log2 x) (y * 2 ^ 31) (2 ^ log2 x) (pow_pos (log2 x)) (pow_pos (log2 x))
          (mul-le (x * 2 ^ 31) (2 ^ log2 x) (y * 2 ^ 31) (2 ^ log2 x) (mul-le x (2 ^ 31) y (2 ^ 31) le (omega arith)) (omega arith)) in
          omega (arith, lg-is x (log2 x) refl, lg-is y (log2 x) same, digits_rise 8 _ _ mant)
    ]

pub lg_doubles : (x : ℕ) → 1 ≤ x → 2 * x < 2 ^ 64 → lg (2 * x) ≡ lg x + 256
lg_doubles x some small =
    let p = is_log x some (omega (arith, small)) in
    let e : log2 (2 * x) ≡ suc (log2 x) = one_log (2 * x) _ _ (is_log (2 * x) (omega (arith, some)) small) (log_doubles x (log2 x) p) in
    let top : 2 * x * 2 ^ 31 ≡ 2 * (x * 2 ^ 31) = omega arith in
    let under : 2 ^ suc (log2 x) ≡ 2 * 2 ^ log2 x = omega (arith, two-pow-succ (log2 x)) in
    let mant : 2 * x * 2 ^ 31 / 2 ^ suc (log2 x) ≡ x * 2 ^ 31 / 2 ^ log2 x = rw (top, under) (mul-div-mul_left {m = 2} (x * 2 ^ 31) (2 ^ log2 x) (lit< tt)) in
    omega (arith, lg-is (2 * x) (suc (log2 x)) e, lg-is x (log2 x) refl, ap (digits_of 8) mant)

-- ---- the root

root_within : (n r s : ℕ) → r * r ≤ s → s < (r + 2 ^ n) * (r + 2 ^ n) → IsRoot s (root_from n r s)
unfolding root_from
root_within zero r s low high = record { within = low; next = high }
root_within (suc n) r s low high =
    elim (cases_lt s ((r + 2 ^ n) * (r + 2 ^ n))) [
      | inl lt ↦ subst (λ k. IsRoot s (root_from n k s)) (sym (cond-false (nat_le ((r + 2 ^ n) * (r + 2 ^ n)) s) (r + 2 ^ n) r (lt-leb _ s lt))) (root_within n r s low lt)
      | inr ge ↦
          let e : r + 2 ^ suc n ≡ r + 2 ^ n + 2 ^ n = omega (arith, two-pow-succ n) in
          subst (λ k. IsRoot s (root_from n k s)) (sym (cond-true (nat_le ((r + 2 ^ n) * (r + 2 ^ n)) s) (r + 2 ^ n) r (le-leb _ s ge)))
          (root_within n (r + 2 ^ n) s ge (subst (λ k. s < k * k) e high))
    ]

pub isqrt_root : (s : ℕ) → s < 2 ^ 64 → IsRoot s (isqrt s)
unfolding isqrt
isqrt_root s small = root_within 32 0 s (omega arith) (omega (arith, small))

root_order : (s a b : ℕ) → IsRoot s a → IsRoot s b → a ≤ b
root_order s a b p q =
    elim (cases_lt b a) [
      | inl lt ↦ absurd (omega (arith, mul-le (b + 1) (b + 1) a a (omega (arith, lt)) (omega (arith, lt)), p.within, q.next))
      | inr ge ↦ ge
    ]

pub one_root : (s a b : ℕ) → IsRoot s a → IsRoot s b → a ≡ b
one_root s a b p q = omega (arith, root_order s a b p q, root_order s b a q p)
