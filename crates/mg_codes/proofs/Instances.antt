-- The gamma and Golomb codes as codes of two parts.
use Rattle.std.proofs.Common.{arith, suc, zero, ◌≡◌, ◌+◌, ◌*◌, ◌/◌, ◌%◌, ◌^◌, ◌≤◌, ◌<◌, ◌-◌, ℕ, refl, sym, ◌∙◌, ap, subst, inl, inr}
use Rattle.std.proofs.lemmas.Bool.{cases_lt}
use Rattle.std.proofs.lemmas.Nat.{pow_pos, mod_low, div-mul-add, mod-mul-add}
use Rattle.std.proofs.Math.Nat.{two-pow-succ, div-add-mod, mul-le-mul_right}
use Rattle.std.proofs.Math.Pow.{pow_mono}
use lib.Ieee.Nearest.{div_mono}
use Rattle.mg_defs.specs.Bits.{Bits, digits}
use Rattle.mg_defs.specs.Codes.{gamma, short, shorter, golomb, log2, ceil_log2}
use Rattle.mg_defs.specs.Answers.{UpTo}
use Rattle.mg_defs.proofs.FixedLaws.{IsLog, is_log, one_log, log_rises}
use Rattle.mg_defs.proofs.BitLaws.{digits_mod}
use Rattle.mg_defs.proofs.CodeLaws.{IsCeil, is_ceil, one_ceil, short_high, gamma_is}
use Rattle.mg_codes.specs.Remainders.{IsBound}
use Rattle.mg_codes.proofs.TwoParts.{TwoParts, Second}

-- ---- golomb

abbrev pub quotient_of : ℕ → ℕ → ℕ
quotient_of b x = (x - 1) / b

abbrev pub short_of : ℕ → ℕ → Bits
short_of b x = short b ((x - 1) % b)

quotient_rises : (b x y : ℕ) → 1 ≤ b → x ≤ y → x / b ≤ y / b
quotient_rises b x y some le = div_mono x b y b some some (mul_right x y b le)
  where
    mul_right : (x y b : ℕ) → x ≤ y → x * b ≤ y * b
    mul_right x y b le = mul-le-mul_right b le

pub joined_below : (b limit q v bound : ℕ) → 1 ≤ b → 1 ≤ limit → IsBound b ((limit - 1) / b) ((limit - 1) % b) q bound → v < bound → q * b + v + 1 ≤ limit
joined_below b limit q v bound some any is below =
    let whole : b * ((limit - 1) / b) + (limit - 1) % b ≡ limit - 1 = div-add-mod (limit - 1) b in
    elim (cases_lt q ((limit - 1) / b)) [
      | inl lt ↦
          let vb : v < b = omega (arith, is.before lt, below) in
          let step : (q + 1) * b ≤ (limit - 1) / b * b = (let le : q + 1 ≤ (limit - 1) / b = omega (arith, lt) in mul-le-mul_right b le) in
          omega (arith, step, vb, whole, any)
      | inr ge ↦
          let same : q ≡ (limit - 1) / b = omega (arith, ge, is.most) in
          let e : q * b ≡ (limit - 1) / b * b = ap (λ n. n * b) same in
          omega (arith, is.at_top same, below, whole, any, e)
    ]

pub golomb_parts : (b limit : ℕ) → 1 ≤ b → 1 ≤ limit → TwoParts (UpTo limit) (golomb b) (quotient_of b) (short_of b) ((limit - 1) / b)
unfolding golomb
golomb_parts b limit some any = record {
  is = λ x taken. refl;
  most = λ x taken. quotient_rises b (x - 1) (limit - 1) some (omega (arith, taken.1));
  reach = λ q most.
      let whole : b * ((limit - 1) / b) + (limit - 1) % b ≡ limit - 1 = div-add-mod (limit - 1) b in
      let under : q * b ≤ (limit - 1) / b * b = mul-le-mul_right b most in
      record {
        value = q * b + 0 + 1;
        taken = (omega arith, omega (arith, under, whole, any));
        is = ap (λ n. n / b) (let e : q * b + 0 + 1 - 1 ≡ q * b + 0 = omega arith in e) ∙ div-mul-add q b 0 (omega (arith, some));
      };
}

pub golomb_second : (b limit q bound : ℕ) → 1 ≤ b → 1 ≤ limit → IsBound b ((limit - 1) / b) ((limit - 1) % b) q bound → bound ≤ b →
    Second (UpTo limit) (quotient_of b) (short_of b) q bound (short b) (λ v. q * b + v + 1)
golomb_second b limit q bound some any is within = record {
  value = λ v below. (omega arith, joined_below b limit q v bound some any is below);
  leads = λ v below. ap (λ n. n / b) (let e : q * b + v + 1 - 1 ≡ q * b + v = omega arith in e) ∙ div-mul-add q b v (omega (arith, below, within));
  is = λ v below. ap (λ n. short b (n % b)) (let e : q * b + v + 1 - 1 ≡ q * b + v = omega arith in e) ∙ ap (short b) (mod-mul-add q b v (omega (arith, below, within)));
  back = λ x taken same. record { v = (x - 1) % b; below = remainder_below x taken same; is = refl };
}
  where
    remainder_below : (x : ℕ) → UpTo limit x → (x - 1) / b ≡ q → (x - 1) % b < bound
    remainder_below x taken same =
        let here : b * ((x - 1) / b) + (x - 1) % b ≡ x - 1 = div-add-mod (x - 1) b in
        let whole : b * ((limit - 1) / b) + (limit - 1) % b ≡ limit - 1 = div-add-mod (limit - 1) b in
        elim (cases_lt q ((limit - 1) / b)) [
          | inl lt ↦ (let e : bound ≡ b = is.before lt in let m : (x - 1) % b < b = omega (arith, some) in omega (arith, e, m))
          | inr ge ↦
              let top : q ≡ (limit - 1) / b = omega (arith, ge, is.most) in
              let e : b * ((x - 1) / b) ≡ b * ((limit - 1) / b) = ap (λ n. b * n) (same ∙ top) in
              omega (arith, is.at_top top, here, whole, e, taken.1, taken.0, any)
        ]

-- ---- gamma

abbrev pub lower_of : ℕ → Bits
lower_of x = digits (log2 x) x

-- the short code of a power of two is the number in so many bits
power_ceil : (q : ℕ) → IsCeil (2 ^ q) q
power_ceil zero = record { high = omega arith; low = λ h. absurd (omega arith) }
power_ceil (suc k) = record { high = omega arith; low = λ h. (let e : suc k - 1 ≡ k = omega arith in rw e (omega (arith, two-pow-succ k, pow_pos k))) }

none_shorter : (q : ℕ) → ceil_log2 (2 ^ q) ≡ q → shorter (2 ^ q) ≡ 0
unfolding shorter
none_shorter q e = ap (λ n. 2 ^ n - 2 ^ q) e ∙ (let z : 2 ^ q - 2 ^ q ≡ 0 = omega arith in z)

pub short_of_power : (q v : ℕ) → q ≤ 64 → short (2 ^ q) v ≡ digits q v
short_of_power q v small =
    let m : 2 ^ q ≤ 2 ^ 64 = pow_mono small in
    let e : ceil_log2 (2 ^ q) ≡ q = one_ceil (2 ^ q) _ _ (is_ceil (2 ^ q) (omega (arith, pow_pos q)) m) (power_ceil q) in
    let none : shorter (2 ^ q) ≡ 0 = none_shorter q e in
    short_high (2 ^ q) v (rw none (omega arith)) ∙ ap (λ n. digits (ceil_log2 (2 ^ q)) (v + n)) none ∙ ap (λ n. digits n (v + 0)) e ∙ ap (digits q) (let z : v + 0 ≡ v = omega arith in z)

log_order : (q n x y : ℕ) → IsLog x q → IsLog y n → x ≤ y → q ≤ n
log_order q n x y lx ly le = log_rises x y q n le lx ly

power_log : (q : ℕ) → IsLog (2 ^ q) q
power_log q = record { low = omega arith; high = omega (arith, two-pow-succ q, pow_pos q) }

joined_log : (q v : ℕ) → v < 2 ^ q → IsLog (2 ^ q + v) q
joined_log q v below = record { low = omega arith; high = omega (arith, two-pow-succ q, below) }

pub gamma_parts : (limit top : ℕ) → limit < 2 ^ 48 → IsLog limit top → TwoParts (UpTo limit) gamma log2 lower_of top
gamma_parts limit top small is = record {
  is = λ x taken. gamma_is (log2 x) x (is_log x taken.0 (omega (arith, taken.1, small))) (omega (arith, taken.1, small));
  most = λ x taken. log_order (log2 x) top x limit (is_log x taken.0 (omega (arith, taken.1, small))) is taken.1;
  reach = λ q most.
      let up : 2 ^ q ≤ 2 ^ top = pow_mono most in
      record {
        value = 2 ^ q;
        taken = (omega (arith, pow_pos q), omega (arith, up, is.low));
        is = one_log (2 ^ q) _ _ (is_log (2 ^ q) (omega (arith, pow_pos q)) (omega (arith, up, is.low, small))) (power_log q);
      };
}

-- the bits below the highest
pub with_highest : (q v : ℕ) → v < 2 ^ q → digits q (2 ^ q + v) ≡ digits q v
with_highest q v below =
    let e : 2 ^ q + v ≡ 1 * 2 ^ q + v = omega arith in
    sym (digits_mod q q (2 ^ q + v) (omega arith)) ∙ ap (digits q) (ap (λ n. n % 2 ^ q) e ∙ mod_low 1 q v below)

pub gamma_joined_below : (limit top q v bound : ℕ) → IsLog limit top → IsBound (2 ^ q) top (limit - 2 ^ top) q bound → v < bound → 2 ^ q + v ≤ limit
gamma_joined_below limit top q v bound is bounds below =
    elim (cases_lt q top) [
      | inl lt ↦ (let up : 2 ^ suc q ≤ 2 ^ top = (let le : suc q ≤ top = omega (arith, lt) in pow_mono le) in omega (arith, bounds.before lt, below, up, two-pow-succ q, is.low))
      | inr ge ↦ (let same : q ≡ top = omega (arith, ge, bounds.most) in let e : 2 ^ q ≡ 2 ^ top = ap (λ n. 2 ^ n) same in omega (arith, bounds.at_top same, below, e, is.low))
    ]

pub gamma_second : (limit top q bound : ℕ) → limit < 2 ^ 48 → IsLog limit top → IsBound (2 ^ q) top (limit - 2 ^ top) q bound → bound ≤ 2 ^ q → q ≤ 64 →
    Second (UpTo limit) log2 lower_of q bound (short (2 ^ q)) (λ v. 2 ^ q + v)
gamma_second limit top q bound small is bounds within short_q = record {
  value = λ v below. (omega (arith, pow_pos q), gamma_joined_below limit top q v bound is bounds below);
  leads = λ v below. leads v below;
  is = λ v below. ap (λ n. digits n (2 ^ q + v)) (leads v below) ∙ with_highest q v (omega (arith, below, within)) ∙ sym (short_of_power q v short_q);
  back = λ x taken same.
      let log : IsLog x (log2 x) = is_log x taken.0 (omega (arith, taken.1, small)) in
      let log : IsLog x q = subst (IsLog x) same log in
      record {
        v = x - 2 ^ q;
        below = remainder_below x taken log;
        is = ap (λ n. digits n x) same ∙ ap (digits q) (let e : x ≡ 2 ^ q + (x - 2 ^ q) = omega (arith, log.low) in e)
            ∙ with_highest q (x - 2 ^ q) (omega (arith, log.high, two-pow-succ q)) ∙ sym (short_of_power q (x - 2 ^ q) short_q);
      };
}
  where
    leads : (v : ℕ) → v < bound → log2 (2 ^ q + v) ≡ q
    leads v below =
        one_log (2 ^ q + v) _ _ (is_log (2 ^ q + v) (omega (arith, pow_pos q)) (omega (arith, gamma_joined_below limit top q v bound is bounds below, small)))
        (joined_log q v (omega (arith, below, within)))

    remainder_below : (x : ℕ) → UpTo limit x → IsLog x q → x - 2 ^ q < bound
    remainder_below x taken log =
        elim (cases_lt q top) [
          | inl lt ↦ omega (arith, bounds.before lt, log.high, two-pow-succ q)
          | inr ge ↦ (let same : q ≡ top = omega (arith, ge, bounds.most) in let e : 2 ^ q ≡ 2 ^ top = ap (λ n. 2 ^ n) same in omega (arith, bounds.at_top same, e, taken.1, log.low))
        ]

-- the greatest quotient of a small number is small
pub top_small : (n b : ℕ) → 1 ≤ b → n / b ≤ n
top_small n b some =
    let whole : b * (n / b) + n % b ≡ n = div-add-mod n b in
    let up : 1 * (n / b) ≤ b * (n / b) = mul-le-mul_right (n / b) some in
    omega (arith, whole, up)

pub as_log : (x e : ℕ) → 2 ^ e ≤ x → x < 2 * 2 ^ e → IsLog x e
as_log x e low high = record { low = low; high = omega (arith, two-pow-succ e, high) }

pub below_power : (x e k : ℕ) → x < 2 ^ k → 2 ^ e ≤ x → e < k
below_power x e k below low = elim (cases_lt e k) [ inl lt ↦ lt | inr ge ↦ absurd (let m : 2 ^ k ≤ 2 ^ e = pow_mono ge in omega (arith, m, below, low)) ]

pub log_small : (x e : ℕ) → x < 2 ^ 48 → 2 ^ e ≤ x → e < 48
log_small x e small low = below_power x e 48 small low

pub gamma_second_at : {limit top q bound p w : ℕ} → limit < 2 ^ 48 → IsLog limit top → p ≡ 2 ^ q → w ≡ 2 ^ top →
    IsBound p top (limit - w) q bound → bound ≤ p → Second (UpTo limit) log2 lower_of q bound (short p) (λ v. p + v)
gamma_second_at {limit} {top} {q} {bound} {p} {w} small is ep ew bounds within =
    let few : q ≤ 64 = omega (arith, bounds.most, log_small limit top small is.low) in
    let bounds : IsBound (2 ^ q) top (limit - w) q bound = subst (λ n. IsBound n top (limit - w) q bound) ep bounds in
    let bounds : IsBound (2 ^ q) top (limit - 2 ^ top) q bound = subst (λ n. IsBound (2 ^ q) top (limit - n) q bound) ew bounds in
    subst (λ n. Second (UpTo limit) log2 lower_of q bound (short n) (λ v. n + v)) (sym ep)
    (gamma_second limit top q bound small is bounds (subst (λ n. bound ≤ n) ep within) few)

pub last_below : (limit top q p w : ℕ) → limit < 2 * 2 ^ top → p ≡ 2 ^ q → w ≡ 2 ^ top → q ≡ top → limit - w < p
last_below limit top q p w high ep ew same = omega (arith, high, ep, ew, ap (λ n. 2 ^ n) same, pow_pos top)
