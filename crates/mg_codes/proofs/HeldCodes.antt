-- Codes that stand whole on the page that is held.
use Rattle.std.proofs.Common.{arith, suc, zero, ◌≡◌, ◌+◌, ◌*◌, ◌/◌, ◌^◌, ◌≤◌, ◌<◌, ◌-◌, ◌⊎◌, inl, inr, ℕ, List, length, sym, ◌∙◌, ap, subst, pow_pos}
use Rattle.std.proofs.lemmas.Bool.{cases_lt}
use Rattle.std.specs.declared.option.Option.{Option}
use Rattle.std.proofs.lemmas.Nat.{div-mul-add, div_below, pow-add, shr-shr}
use Rattle.std.proofs.Math.Nat.{two-pow-succ}
use Rattle.mg_defs.specs.Bits.{Begins, Bits, FromPlace, digits}
use Rattle.mg_defs.specs.Codes.{unary, short}
use Rattle.mg_defs.proofs.CodeLaws.{length_unary, unary_next}
use Rattle.mg_defs.proofs.BitLaws.{length_digits}
use Rattle.mg_dev.specs.Files.{Files}
use Rattle.mg_bits.specs.Feed.{Feeding, HoldsBits}
use Rattle.mg_bits.specs.Reading.{Reading}
use Rattle.mg_bits.proofs.CallerLemmas.{holds_inside, told_first}
use Rattle.mg_codes.specs.Held.{IsFirstCode, IsOnesBeforeZero}
use Rattle.mg_codes.specs.Readers.{IsHeldCode}
use Rattle.mg_codes.proofs.ShortWalk.{IsShort, high_code, low_code}
use Rattle.mg_codes.proofs.Written.{unary_digits}

-- ---- unary

pub quotient : (k w rest next : ℕ) → w ≤ rest → rest < 2 * w → next + 1 + rest ≡ 2 * (k * w + w) → next / w ≡ k * 2
quotient k w rest next low high sum =
    let e : next ≡ k * 2 * w + (2 * w - 1 - rest) = omega arith in
    ap (λ n. n / w) e ∙ div-mul-add (k * 2) w (2 * w - 1 - rest) (omega arith)

pub less_one : (p w : ℕ) → 0 < p → (p - 1) * w + w ≡ p * w
less_one zero w some = absurd (omega arith)
less_one (suc k) w some = let e : suc k - 1 ≡ k = omega arith in rw e (omega arith)

-- the ones end where the greatest one-bit of what is left to 57 ones stands
pub ones_end : (next rest e n : ℕ) → rest ≡ 2 ^ 57 - 1 - next → next < 2 ^ 57 → 2 ^ e ≤ rest → rest < 2 * 2 ^ e → e ≤ 56 → n ≡ 56 - e → IsOnesBeforeZero next n
ones_end next rest e n is below low high small count =
    let back : 56 - n ≡ e = omega arith in
    let total : 1 + (n + e) ≡ 57 = omega arith in
    let wide : 2 ^ 57 ≡ 2 * (2 ^ n * 2 ^ e) = ap (λ k. 2 ^ k) (sym total) ∙ pow-add 2 1 (n + e) ∙ ap (λ x. 2 * x) (pow-add 2 n e) in
    let sum : next + 1 + rest ≡ 2 * ((2 ^ n - 1) * 2 ^ e + 2 ^ e) = (let all : next + 1 + rest ≡ 2 ^ 57 = omega arith in all ∙ wide ∙ ap (λ x. 2 * x) (sym (less_one (2 ^ n) (2 ^ e) (pow_pos n)))) in
    record {
      within = omega arith;
      first = ap (λ k. next / 2 ^ k) back ∙ quotient (2 ^ n - 1) (2 ^ e) rest next low high sum;
    }

pub unary_length : (x : ℕ) → 1 ≤ x → length (unary x) ≡ x
unary_length x some = let e : x - 1 + 1 ≡ x = omega arith in ap (λ n. length (unary n)) (sym e) ∙ length_unary (x - 1) ∙ e

pub told_unary : (told : Option (List ℕ)) (place next n : ℕ) → IsOnesBeforeZero next n → FromPlace told place (Begins (digits 57 next)) → FromPlace told place (Begins (unary (n + 1)))
told_unary told place next n ones begins =
    let code : digits (n + 1) (next / 2 ^ (56 - n)) ≡ unary (n + 1) = ap (digits (n + 1)) ones.first ∙ unary_digits n ∙ sym (unary_next n) in
    subst (λ d. FromPlace told place (Begins d)) code (told_first told place 57 (n + 1) (56 - n) next (omega (arith, ones.within)) begins)

-- ---- short codes

pub short_low_first : (b size few next high : ℕ) → IsShort b size few → 1 ≤ size → size ≤ 48 → high ≡ next / 2 ^ (58 - size) → high < few →
    short b high ≡ digits (size - 1) (next / 2 ^ (57 - (size - 1)))
short_low_first b size few next high is some small at lt =
    let e : 58 - size ≡ 57 - (size - 1) = omega arith in
    low_code b size few high is lt ∙ ap (digits (size - 1)) (at ∙ ap (λ k. next / 2 ^ k) e)

pub low_is_long : (b size few high : ℕ) → IsShort b size few → 1 ≤ size → high < few → 1 ≤ size - 1
low_is_long b size few high is some lt = by_order (cases_lt 1 size)
  where
    by_order : (1 < size) ⊎ (size ≤ 1) → 1 ≤ size - 1
    by_order (inl more) = omega arith
    by_order (inr one) =
        let e : size ≡ 1 = omega arith in
        let two : 2 ^ size ≡ 2 = ap (λ k. 2 ^ k) e in
        let single : 2 ^ (size - 1) ≡ 1 = ap (λ k. 2 ^ (k - 1)) e in
        absurd (omega (arith, is.sum, is.low some, two, single))

pub few_below : (size few next : ℕ) → size ≤ 57 → few ≤ next / 2 ^ (58 - size) → 2 * few ≤ next / 2 ^ (57 - size)
few_below size few next small above =
    let e : 57 - size + 1 ≡ 58 - size = omega arith in
    let half : next / 2 ^ (57 - size) / 2 ≡ next / 2 ^ (58 - size) = shr-shr next (57 - size) 1 ∙ ap (λ k. next / 2 ^ k) e in
    omega arith

pub short_high_first : (b size few next : ℕ) → IsShort b size few → size ≤ 57 → few ≤ next / 2 ^ (58 - size) → short b (next / 2 ^ (57 - size) - few) ≡ digits size (next / 2 ^ (57 - size))
short_high_first b size few next is small above =
    let twice : 2 * few ≤ next / 2 ^ (57 - size) = few_below size few next small above in
    let back : next / 2 ^ (57 - size) - few + few ≡ next / 2 ^ (57 - size) = omega arith in
    high_code b size few (next / 2 ^ (57 - size) - few) is (omega arith) ∙ ap (digits size) back

pub few_is_below : (b size few high : ℕ) → IsShort b size few → 1 ≤ size → high < few → high < b
few_is_below b size few high is some lt =
    let e : suc (size - 1) ≡ size = omega arith in
    let same : 2 ^ size ≡ 2 ^ suc (size - 1) = ap (λ n. 2 ^ n) (sym e) in
    omega (arith, is.sum, is.low some, same, two-pow-succ (size - 1), lt)

pub rest_is_below : (b size few next : ℕ) → IsShort b size few → 1 ≤ b → next < 2 ^ 57 → size ≤ 57 → next / 2 ^ (57 - size) - few < b
rest_is_below b size few next is some small within =
    let all : size + (57 - size) ≡ 57 = omega arith in
    let wide : 2 ^ 57 ≡ 2 ^ size * 2 ^ (57 - size) = ap (λ n. 2 ^ n) (sym all) ∙ pow-add 2 size (57 - size) in
    let high : next / 2 ^ (57 - size) < 2 ^ size = div_below next (2 ^ (57 - size)) (2 ^ size) (pow_pos (57 - size)) (omega (arith, small, wide)) in
    omega (arith, is.sum, high, some)

-- a code that 57 bits begin with
pub told_code : (told : Option (List ℕ)) (place next size : ℕ) (code : Bits) → size ≤ 57 → code ≡ digits size (next / 2 ^ (57 - size)) →
    FromPlace told place (Begins (digits 57 next)) → FromPlace told place (Begins code)
told_code told place next size code small is begins =
    subst (λ d. FromPlace told place (Begins d)) (sym is) (told_first told place 57 size (57 - size) next (omega arith) begins)

-- a code that 57 bits of the held page begin with
pub first_is_held : {Fed : Type 0} {taken : ℕ → ℕ → Type 0} {limit : ℕ} {code : ℕ → Bits} {agrees : Fed → Option Files → Type 0} {feeding : Fed → Feeding} {r : Reading Fed}
    {number size : ℕ} (next : ℕ) → 0 < (feeding r.feed).page → IsFirstCode (code number) next size → taken limit number → HoldsBits (feeding r.feed) r.place 57 →
    ((files : Option Files) → agrees r.feed files → FromPlace ((feeding r.feed).source files) r.place (Begins (digits 57 next))) →
    IsHeldCode taken limit code agrees feeding r number size
first_is_held {Fed} {taken} {limit} {code} {agrees} {feeding} {r} {number} {size} next some first within held told = record {
  range = within;
  some = first.some;
  small = first.within;
  size = ap length first.bits ∙ length_digits size (next / 2 ^ (57 - size));
  held = holds_inside (feeding r.feed) r.place r.place 57 size some (omega arith) first.some (omega (arith, first.within)) held;
  told = λ files fits. told_code _ r.place next size (code number) first.within first.bits (told files fits);
}
