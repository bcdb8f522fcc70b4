-- Laws of bits and numbers.
use Rattle.std.proofs.Common.{arith, suc, zero, ◌≡◌, ◌+◌, ◌*◌, ◌≤◌, ◌<◌, ◌-◌, ◌/◌, ◌%◌, ◌^◌, ℕ, Bool, true, false, List, [], ◌∷◌, ◌++◌, length, take, drop, Some, None, slice_get, refl, sym, ◌∙◌, ap, length-append, append_assoc, zero-add, if◌then◌else◌}
use Rattle.std.proofs.Math.Seq.{drop-append-add}
use Rattle.std.proofs.Math.ListN.{drop_of_length-le}
use Rattle.std.proofs.Math.Nat.{div-add-mod}
use Rattle.std.proofs.lemmas.Grind.{common_steps}
use Rattle.std.proofs.lemmas.Nat.{shr-shr, shr_high, field_of, mod_low, pow-add, mul-add-lt, mod-pow-add}
use Rattle.std.proofs.Math.Pow.{mod-mod-pow}
use Rattle.mg_defs.specs.Bits.{Bits, digits, number, bits_of, is_odd}

-- ---- the bits of a number

pub length_digits : (count n : ℕ) → length (digits count n) ≡ count
unfolding digits
length_digits zero n = refl
length_digits (suc count) n = ap suc (length_digits count n)

-- without its first bits, a number's bits are those that are left
pub drop_digits : (r count n : ℕ) (more : Bits) → r ≤ count → drop r (digits count n ++ more) ≡ digits (count - r) n ++ more
unfolding digits
drop_digits zero count n more h = grind (arith, common_steps)
drop_digits (suc r) zero n more h = absurd (omega arith)
drop_digits (suc r) (suc count) n more h = grind (arith, common_steps, drop_digits r count n more)

-- bits above those asked for don't matter
pub digits_mod : (count e x : ℕ) → count ≤ e → digits count (x % 2 ^ e) ≡ digits count x
unfolding digits
digits_mod zero e x le = refl
digits_mod (suc count) e x le =
    let k : ℕ = e - suc count in
    let same : suc k + count ≡ e = omega arith in
    let one : k + 1 ≡ suc k = omega arith in
    let f : x % 2 ^ e / 2 ^ count ≡ x / 2 ^ count % 2 ^ suc k = ap (λ n. x % 2 ^ n / 2 ^ count) (sym same) ∙ field_of x (suc k) count in
    let m : x / 2 ^ count % 2 ^ suc k % 2 ≡ x / 2 ^ count % 2 = ap (λ n. x / 2 ^ count % 2 ^ n % 2) (sym one) ∙ mod-mod-pow (x / 2 ^ count) k 1 in
    rw (f, m, digits_mod count e x (omega arith)) refl

pub high_below : (d t v m : ℕ) → v < 2 ^ d → m < 2 ^ t → v * 2 ^ t + m < 2 ^ (d + t)
high_below d t v m vd mt = omega (arith, mul-add-lt v (2 ^ t) m (2 ^ d) vd mt, pow-add 2 d t)

-- a number of two fields
pub digits_append : (d t v m : ℕ) → m < 2 ^ t → digits (d + t) (v * 2 ^ t + m) ≡ digits d v ++ digits t m
unfolding digits
digits_append zero t v m mt =
    let low : (v * 2 ^ t + m) % 2 ^ t ≡ m = mod_low v t m mt in
    rw zero-add (sym (digits_mod t t (v * 2 ^ t + m) (omega arith)) ∙ ap (digits t) low)
digits_append (suc d) t v m mt =
    let e : suc d + t ≡ suc (d + t) = omega arith in
    let h : (v * 2 ^ t + m) / 2 ^ (d + t) ≡ v / 2 ^ d =
    ap (λ n. (v * 2 ^ t + m) / 2 ^ n) (omega arith) ∙ sym (shr-shr (v * 2 ^ t + m) t d) ∙ ap (λ n. n / 2 ^ d) (shr_high v t m mt) in
    rw (e, h, digits_append d t v m mt) refl

-- the first bits are those of the number without its lowest ones
pub take_digits : (count n k b : ℕ) (more : Bits) → n ≡ count + k → take count (digits n b ++ more) ≡ digits count (b / 2 ^ k)
unfolding digits
take_digits zero n k b more e = refl
take_digits (suc count) zero k b more e = absurd (omega arith)
take_digits (suc count) (suc n) k b more e =
    let h : b / 2 ^ k / 2 ^ count ≡ b / 2 ^ n = shr-shr b k count ∙ ap (λ n. b / 2 ^ n) (omega arith) in
    rw (h, take_digits count n k b more (omega arith)) refl

odd_same : (x y : ℕ) → is_odd x ≡ is_odd y → x % 2 ≡ y % 2
odd_same x y same = grind (arith, common_steps)

-- numbers of the same bits are equal as far as the bits go
pub digits_same : (k a b : ℕ) → digits k a ≡ digits k b → a % 2 ^ k ≡ b % 2 ^ k
unfolding digits
digits_same zero a b same = omega arith
digits_same (suc k) a b same =
    let head : is_odd (a / 2 ^ k) ≡ is_odd (b / 2 ^ k) = cc in
    let tail : digits k a ≡ digits k b = cc in
    let rest : a % 2 ^ k ≡ b % 2 ^ k = digits_same k a b tail in
    let bit : a / 2 ^ k % 2 ≡ b / 2 ^ k % 2 = odd_same _ _ head in
    let e : 1 + k ≡ suc k = omega arith in
    ap (λ n. a % 2 ^ n) (sym e) ∙ mod-pow-add a 1 k ∙ ap (λ x. x * 2 ^ k + a % 2 ^ k) bit ∙ ap (λ x. b / 2 ^ k % 2 * 2 ^ k + x) rest ∙ sym (mod-pow-add b 1 k) ∙ ap (λ n. b % 2 ^ n) e

-- the number that a number's bits write
pub number_digits : (count n : ℕ) → number (digits count n) ≡ n % 2 ^ count
unfolding digits number
number_digits zero n = omega arith
number_digits (suc count) n =
    let e : 1 + count ≡ suc count = omega arith in
    first (is_odd (n / 2 ^ count)) (n / 2 ^ count % 2) (digits count n) (one_or_none (n / 2 ^ count))
    ∙ ap (λ l. n / 2 ^ count % 2 * 2 ^ l + number (digits count n)) (length_digits count n)
    ∙ ap (λ r. n / 2 ^ count % 2 * 2 ^ count + r) (number_digits count n)
    ∙ sym (mod-pow-add n 1 count) ∙ ap (λ l. n % 2 ^ l) e
  where
    one_or_none : (m : ℕ) → m % 2 ≡ (if is_odd m then 1 else 0)
    one_or_none m = grind (arith, common_steps)

    first : (b : Bool) (v : ℕ) (more : Bits) → v ≡ (if b then 1 else 0) → number (b ∷ more) ≡ v * 2 ^ length more + number more
    first true v more is = rw is (omega arith)
    first false v more is = rw is (omega arith)

-- ---- the bits of bytes

pub length_bits_of : (bytes : List ℕ) → length (bits_of bytes) ≡ 8 * length bytes
unfolding bits_of
length_bits_of [] = refl
length_bits_of (byte ∷ bytes) = rw length-append (omega (arith, length_digits 8 byte, length_bits_of bytes))

pub bits_of_append : (a b : List ℕ) → bits_of (a ++ b) ≡ bits_of a ++ bits_of b
unfolding bits_of
bits_of_append [] b = refl
bits_of_append (x ∷ a) b = ap (λ l. digits 8 x ++ l) (bits_of_append a b) ∙ sym (append_assoc (digits 8 x) (bits_of a) (bits_of b))

drop_past : (xs ys : Bits) (n m : ℕ) → n ≡ length xs + m → drop n (xs ++ ys) ≡ drop m ys
drop_past xs ys n m e = rw e (drop-append-add xs ys m)

-- the bits from a place in a byte that is there
bits_from_byte : (bytes : List ℕ) (at r byte : ℕ) → slice_get bytes at ≡ Some byte → r ≤ 8 →
    drop (8 * at + r) (bits_of bytes) ≡ digits (8 - r) byte ++ bits_of (drop (suc at) bytes)
unfolding bits_of
bits_from_byte [] at r byte is h = absurd cc
bits_from_byte (first ∷ bytes) zero r byte is h =
    let same : first ≡ byte = cc in
    rw (zero-add, same) (drop_digits r 8 byte (bits_of bytes) h)
bits_from_byte (first ∷ bytes) (suc at) r byte is h =
    drop_past (digits 8 first) (bits_of bytes) (8 * suc at + r) (8 * at + r) (omega (arith, length_digits 8 first))
    ∙ bits_from_byte bytes at r byte is h

pub bits_from : (bytes : List ℕ) (place byte : ℕ) → slice_get bytes (place / 8) ≡ Some byte →
    drop place (bits_of bytes) ≡ digits (8 - place % 8) byte ++ bits_of (drop (suc (place / 8)) bytes)
bits_from bytes place byte is =
    let e : 8 * (place / 8) + place % 8 ≡ place = div-add-mod place 8 in
    let below : place % 8 ≤ 8 = omega arith in
    ap (λ n. drop n (bits_of bytes)) (sym e) ∙ bits_from_byte bytes (place / 8) (place % 8) byte is below

slice_get_none : (xs : List ℕ) (i : ℕ) → slice_get xs i ≡ None → length xs ≤ i
slice_get_none [] i is = omega arith
slice_get_none (x ∷ xs) zero is = absurd cc
slice_get_none (x ∷ xs) (suc i) is = omega (arith, slice_get_none xs i is)

-- there are none past the end
pub no_bits_from : (bytes : List ℕ) (place : ℕ) → slice_get bytes (place / 8) ≡ None → drop place (bits_of bytes) ≡ []
no_bits_from bytes place is =
    let past : length bytes ≤ place / 8 = slice_get_none bytes (place / 8) is in
    drop_of_length-le (bits_of bytes) (omega (arith, length_bits_of bytes))
