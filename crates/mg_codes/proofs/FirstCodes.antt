-- Codes of two parts that 57 bits begin with.
use Rattle.std.proofs.Common.{arith, ◌≡◌, ◌+◌, ◌*◌, ◌/◌, ◌%◌, ◌^◌, ◌≤◌, ◌<◌, ◌-◌, ℕ, [], ◌++◌, take, refl, sym, ◌∙◌, ap, subst, append-nil, mul-lt-mul_of_pos_right}
use Rattle.std.proofs.Math.Nat.{mul-div-mul_right, two-pow-succ}
use Rattle.std.proofs.Math.Pow.{pow_mono}
use Rattle.std.proofs.Math.Seq.{take-append_seam}
use Rattle.std.proofs.lemmas.Nat.{pow-add, pow_pos, shr-shr}
use Rattle.mg_defs.specs.Bits.{Bits, digits}
use Rattle.mg_defs.specs.Codes.{ceil_log2, gamma, golomb, short, shorter, unary}
use Rattle.mg_defs.proofs.BitLaws.{digits_mod, length_digits}
use Rattle.mg_defs.proofs.CodeLaws.{gamma_is, golomb_is, unary_next}
use Rattle.mg_defs.proofs.FixedLaws.{IsLog}
use Rattle.mg_bits.proofs.CallerLemmas.{digits_split}
use Rattle.mg_codes.specs.Held.{IsFirstCode, IsOnesBeforeZero}
use Rattle.mg_codes.proofs.Instances.{with_highest}
use Rattle.mg_codes.proofs.Written.{unary_digits}

-- ---- bits of a number

first_of : (s v : ℕ) (more : Bits) → take s (digits s v ++ more) ≡ digits s v
first_of s v more = subst (λ k. take k (digits s v ++ more) ≡ digits s v) (length_digits s v) (take-append_seam (digits s v) more)

low_digits : (s k n : ℕ) → digits s (n % 2 ^ (s + k) / 2 ^ k) ≡ digits s (n / 2 ^ k)
low_digits s k n =
    let m : ℕ = n % 2 ^ (s + k) in
    let same : digits s (m / 2 ^ k) ++ digits k m ≡ digits s (n / 2 ^ k) ++ digits k n = sym (digits_split s k m) ∙ (digits_mod (s + k) (s + k) n (omega arith) ∙ digits_split s k n) in
    sym (first_of s (m / 2 ^ k) (digits k m)) ∙ (ap (take s) same ∙ first_of s (n / 2 ^ k) (digits k n))

-- the first bits, and those behind them
joined_digits : (a s next : ℕ) → a + s ≤ 57 → digits a (next / 2 ^ (57 - a)) ++ digits s (next / 2 ^ (57 - (a + s))) ≡ digits (a + s) (next / 2 ^ (57 - (a + s)))
joined_digits a s next within =
    let k : ℕ = 57 - (a + s) in
    let e : k + s ≡ 57 - a = omega arith in
    let v : next / 2 ^ k / 2 ^ s ≡ next / 2 ^ (57 - a) = shr-shr next k s ∙ ap (λ n. next / 2 ^ n) e in
    sym (digits_split a s (next / 2 ^ k) ∙ ap (λ n. digits a n ++ digits s (next / 2 ^ k)) v)

-- the bits behind the first ones, taken from these bits with zero-bits after them
behind_digits : (a s next : ℕ) → a + s ≤ 57 → digits s (next % 2 ^ (57 - a) * 2 ^ a / 2 ^ (57 - s)) ≡ digits s (next / 2 ^ (57 - (a + s)))
behind_digits a s next within =
    let k : ℕ = 57 - (a + s) in
    let x : ℕ = next % 2 ^ (57 - a) in
    let e : 57 - a ≡ s + k = omega arith in
    let f : 57 - s ≡ k + a = omega arith in
    let w : 2 ^ (57 - s) ≡ 2 ^ k * 2 ^ a = ap (λ n. 2 ^ n) f ∙ pow-add 2 k a in
    let q : x * 2 ^ a / 2 ^ (57 - s) ≡ x / 2 ^ k = ap (λ d. x * 2 ^ a / d) w ∙ mul-div-mul_right x (2 ^ k) (pow_pos a) in
    ap (digits s) (q ∙ ap (λ n. next % 2 ^ n / 2 ^ k) e) ∙ low_digits s k next

-- ---- the codes

unary_first : (next q : ℕ) → IsOnesBeforeZero next q → unary (q + 1) ≡ digits (q + 1) (next / 2 ^ (57 - (q + 1)))
unary_first next q ones =
    let e : 57 - (q + 1) ≡ 56 - q = omega arith in
    unary_next q ∙ (sym (unary_digits q) ∙ (ap (digits (q + 1)) (sym ones.first) ∙ ap (λ n. digits (q + 1) (next / 2 ^ n)) (sym e)))

unary_one_more : (q : ℕ) → unary (1 + q) ≡ unary (q + 1)
unary_one_more q = let e : 1 + q ≡ q + 1 = omega arith in ap unary e

pub golomb_first : (b next q value s : ℕ) → 1 ≤ b → IsOnesBeforeZero next q → value < b →
    short b value ≡ digits s (next % 2 ^ (57 - (q + 1)) * 2 ^ (q + 1) / 2 ^ (57 - s)) → q + 1 + s ≤ 57 →
    IsFirstCode (golomb b (q * b + value + 1)) next (q + 1 + s)
golomb_first b next q value s some ones below code within = record {
  some = omega arith;
  within = within;
  bits = golomb_is b (q * b + value + 1) q value some refl below
      ∙ (ap (λ l. l ++ short b value) (unary_one_more q ∙ unary_first next q ones)
      ∙ (ap (λ l. digits (q + 1) (next / 2 ^ (57 - (q + 1))) ++ l) (code ∙ behind_digits (q + 1) s next within) ∙ joined_digits (q + 1) s next within));
}

pub no_bits : short 1 0 ≡ []
unfolding short shorter ceil_log2 digits
no_bits = refl

pub one_is : (b few : ℕ) → 1 ≤ b → b + few ≡ 1 → b ≡ 1
one_is b few some sum = omega arith

pub golomb_of_one : (next q : ℕ) → IsOnesBeforeZero next q → IsFirstCode (golomb 1 (q + 1)) next (q + 1)
golomb_of_one next q ones = record {
  some = omega arith;
  within = omega (arith, ones.within);
  bits = golomb_is 1 (q + 1) q 0 (omega arith) (omega arith) (omega arith)
      ∙ (ap (λ l. unary (1 + q) ++ l) no_bits ∙ (append-nil (unary (1 + q)) ∙ (unary_one_more q ∙ unary_first next q ones)));
}

pub gamma_first : (next q : ℕ) → IsOnesBeforeZero next q → q ≤ 28 → IsFirstCode (gamma (2 ^ q + next / 2 ^ (56 - 2 * q) % 2 ^ q)) next (2 * q + 1)
gamma_first next q ones few =
    let n : ℕ = next / 2 ^ (56 - 2 * q) in
    let v : ℕ = n % 2 ^ q in
    let some : 0 < 2 ^ q = pow_pos q in
    let below : v < 2 ^ q = omega (arith, some) in
    let up : 2 ^ q ≤ 2 ^ 28 = pow_mono few in
    let log : IsLog (2 ^ q + v) q = record { low = omega arith; high = omega (arith, two-pow-succ q, below) } in
    let all : q + 1 + q ≡ 2 * q + 1 = omega arith in
    let e : 56 - 2 * q ≡ 57 - (q + 1 + q) = omega arith in
    let lower : digits q (2 ^ q + v) ≡ digits q (next / 2 ^ (57 - (q + 1 + q))) = with_highest q v below ∙ (digits_mod q q n (omega arith) ∙ ap (λ k. digits q (next / 2 ^ k)) e) in
    let whole : gamma (2 ^ q + v) ≡ digits (q + 1 + q) (next / 2 ^ (57 - (q + 1 + q))) =
    gamma_is q (2 ^ q + v) log (omega (arith, below, up))
    ∙ (ap (λ l. l ++ digits q (2 ^ q + v)) (unary_one_more q ∙ unary_first next q ones)
    ∙ (ap (λ l. digits (q + 1) (next / 2 ^ (57 - (q + 1))) ++ l) lower ∙ joined_digits (q + 1) q next (omega (arith, few)))) in
    record {
      some = omega arith;
      within = omega arith;
      bits = whole ∙ ap (λ k. digits k (next / 2 ^ (57 - k))) all;
    }

pub behind_below : (next a : ℕ) → a ≤ 57 → next % 2 ^ (57 - a) * 2 ^ a < 2 ^ 57
behind_below next a within =
    let some : 0 < 2 ^ (57 - a) = pow_pos (57 - a) in
    let wide : 0 < 2 ^ a = pow_pos a in
    let low : next % 2 ^ (57 - a) < 2 ^ (57 - a) = omega (arith, some) in
    let all : 57 - a + a ≡ 57 = omega arith in
    let e : 2 ^ 57 ≡ 2 ^ (57 - a) * 2 ^ a = ap (λ n. 2 ^ n) (sym all) ∙ pow-add 2 (57 - a) a in
    rw e (mul-lt-mul_of_pos_right low wide)
