-- A word is a plain number exactly where it is what its parsed number writes.
use Rattle.std.proofs.Common.{◌≡◌, ◌∙◌, ◌≤◌, ◌<◌, ◌^◌, ◌&&◌, ℕ, Bool, true, false, not, cond, None, Some, Ok, Err, refl, sym, ap, arith}
use Rattle.std.specs.Prelude.{Result, decimal, nat_lt}
use Rattle.std.specs.Str.{bytes_eq}
use Rattle.std.specs.Str.Parse.{digits_value, ParsesUnsigned}
use Rattle.std.proofs.lemmas.Fmt.{decimal_is_IsNumeral, parse-decimal}
use Rattle.std.proofs.lemmas.Slice.Eq.{bytes_eq-Decides}
use Rattle.mg_args.specs.Plain.{Word, is_plain_number, plain_number}

three : (a b d : Bool) → (a && b && d) ≡ true → (a ≡ true) × (b ≡ true) × (d ≡ true)
three true true true e = (refl, refl, refl)
three true true false e = cc
three true false d e = cc
three false b d e = cc

not_true : (b : Bool) → not b ≡ true → b ≡ false
not_true true e = cc
not_true false e = refl

tested : (low high : ℕ) (word : Word) → is_plain_number low high word ≡ true → (word ≡ decimal (digits_value 10 word)) × (low ≤ digits_value 10 word) × (digits_value 10 word ≤ high)
tested low high word is =
    let t = three _ _ _ is in
    let low_ok : nat_lt (digits_value 10 word) low ≡ false = not_true _ t.1 in
    let high_ok : nat_lt high (digits_value 10 word) ≡ false = not_true _ t.2 in
    ((bytes_eq-Decides _ _).0 t.0, grind (arith, low_ok), grind (arith, high_ok))

none_unless : (low high : ℕ) (word : Word) → (is_plain_number low high word ≡ true → ⊥) → plain_number low high word ≡ None
none_unless low high word never = go (is_plain_number low high word) refl
  where
    go : (b : Bool) → is_plain_number low high word ≡ b → cond b (Some (digits_value 10 word)) None ≡ None
    go true e = absurd (never e)
    go false e = refl

pub not_parsed : {E : Type 0} (low high : ℕ) (word : Word) (e : E) → high < 2 ^ 64 → ParsesUnsigned 64 10 word (Err e) → plain_number low high word ≡ None
not_parsed low high word e fits parses = none_unless low high word (λ is.
    let t = tested low high word is in
    let bad : Err e ≡ Ok (digits_value 10 word) = parse-decimal 64 (digits_value 10 word) word (Err e) (omega (arith, t.2, fits)) (omega (arith, t.2, fits)) t.0 parses in
    cc)

same_ok : (E : Type 0) (n m : ℕ) → ◌≡◌ {A = Result ℕ E} (Ok n) (Ok m) → n ≡ m
same_ok E n m e = cc

same_number : {E : Type 0} (low high n : ℕ) (word : Word) (r : Result ℕ E) → r ≡ Ok n → high < 2 ^ 64 → ParsesUnsigned 64 10 word r → is_plain_number low high word ≡ true → n ≡ digits_value 10 word
same_number {E} low high n word r ok fits parses is =
    let t = tested low high word is in
    same_ok E n (digits_value 10 word) (sym ok ∙ parse-decimal 64 (digits_value 10 word) word r (omega (arith, t.2, fits)) (omega (arith, t.2, fits)) t.0 parses)

pub not_written : {E : Type 0} (low high n : ℕ) (word : Word) (r : Result ℕ E) → r ≡ Ok n → high < 2 ^ 64 → ParsesUnsigned 64 10 word r →
    ((decimal n ≡ word) → (low ≤ n) → (n ≤ high) → ⊥) → plain_number low high word ≡ None
not_written low high n word r ok fits parses never = none_unless low high word (λ is.
    let t = tested low high word is in
    let same = same_number low high n word r ok fits parses is in
    never (ap decimal same ∙ sym t.0) (omega (arith, same, t.1)) (omega (arith, same, t.2)))

pub is_written : (low high n : ℕ) (word : Word) → n < 2 ^ 64 → decimal n ≡ word → low ≤ n → n ≤ high → plain_number low high word ≡ Some n
is_written low high n word fits writes low_ok high_ok =
    let value : digits_value 10 word ≡ n = ap (digits_value 10) (sym writes) ∙ (decimal_is_IsNumeral n fits).1 in
    let first : bytes_eq word (decimal n) ≡ true = (bytes_eq-Decides _ _).1 (sym writes) in
    let second : nat_lt n low ≡ false = grind (arith, low_ok) in
    let third : nat_lt high n ≡ false = grind (arith, high_ok) in
    rw (value, first, second, third) refl
