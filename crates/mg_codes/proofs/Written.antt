-- The codes as bits that are written in pieces.
use Rattle.std.proofs.Common.{arith, suc, zero, ◌≡◌, ◌+◌, ◌*◌, ◌/◌, ◌%◌, ◌^◌, ◌≤◌, ◌<◌, ◌-◌, ℕ, true, false, [], ◌∷◌, ◌++◌, refl, sym, ◌∙◌, ap, append_assoc, add-zero}
use Rattle.std.proofs.lemmas.Nat.{pow_pos, mod_low, shr_high}
use Rattle.std.proofs.Math.Nat.{two-pow-succ}
use Rattle.mg_defs.specs.Bits.{digits}
use Rattle.mg_defs.specs.Codes.{ones, unary, gamma}
use Rattle.mg_defs.proofs.BitLaws.{digits_mod, digits_append}
use Rattle.mg_defs.proofs.CodeLaws.{unary_after, unary_next, gamma_is}

pub ones_digits : (n : ℕ) → digits n (2 ^ n - 1) ≡ ones n
unfolding ones digits
ones_digits zero = refl
ones_digits (suc n) =
    let p : 0 < 2 ^ n = pow_pos n in
    let e : 2 ^ suc n - 1 ≡ 1 * 2 ^ n + (2 ^ n - 1) = omega (arith, two-pow-succ n) in
    let below : 2 ^ n - 1 < 2 ^ n = omega arith in
    let head : (2 ^ suc n - 1) / 2 ^ n ≡ 1 = ap (λ x. x / 2 ^ n) e ∙ shr_high 1 n (2 ^ n - 1) below in
    let tail : digits n (2 ^ suc n - 1) ≡ digits n (2 ^ n - 1) =
    sym (digits_mod n n (2 ^ suc n - 1) (omega arith)) ∙ ap (digits n) (ap (λ x. x % 2 ^ n) e ∙ mod_low 1 n (2 ^ n - 1) below) in
    rw (head, tail, ones_digits n) refl

pub one_zero : digits 1 0 ≡ false ∷ []
unfolding digits
one_zero = refl

pub unary_digits : (n : ℕ) → digits (n + 1) ((2 ^ n - 1) * 2) ≡ ones n ++ false ∷ []
unary_digits n =
    let one : digits 1 0 ≡ false ∷ [] = one_zero in
    ap (digits (n + 1)) (sym (add-zero ((2 ^ n - 1) * 2))) ∙ digits_append n 1 (2 ^ n - 1) 0 (omega arith) ∙ rw (ones_digits n, one) refl

pub gamma_written : (n x : ℕ) → 2 ^ n ≤ x → x < 2 * 2 ^ n → x < 2 ^ 64 → digits (n + 1) ((2 ^ n - 1) * 2) ++ digits n x ≡ gamma x
gamma_written n x low high small =
    ap (λ l. l ++ digits n x) (unary_digits n ∙ sym (unary_after n)) ∙ sym (gamma_is n x (record { low = low; high = omega (arith, two-pow-succ n, high) }) small)

-- both parts of a code in one number
pub gamma_at_once : (n x : ℕ) → 2 ^ n ≤ x → x < 2 * 2 ^ n → x < 2 ^ 64 → digits (n + 1 + n) ((2 ^ n - 1) * 2 * 2 ^ n + (x - 2 ^ n)) ≡ gamma x
gamma_at_once n x low high small =
    let below : x - 2 ^ n < 2 ^ n = omega (arith, low, high) in
    let is : x ≡ 1 * 2 ^ n + (x - 2 ^ n) = omega (arith, low) in
    let rest : digits n (x - 2 ^ n) ≡ digits n x =
    ap (digits n) (sym (ap (λ y. y % 2 ^ n) is ∙ mod_low 1 n (x - 2 ^ n) below)) ∙ digits_mod n n x (omega arith) in
    digits_append (n + 1) n ((2 ^ n - 1) * 2) (x - 2 ^ n) below ∙ ap (λ l. digits (n + 1) ((2 ^ n - 1) * 2) ++ l) rest ∙ gamma_written n x low high small

ones_both : (a b : ℕ) → ones a ++ ones b ≡ ones (a + b)
unfolding ones
ones_both zero b = ap ones (let e : b ≡ 0 + b = omega arith in e)
ones_both (suc a) b = ap (λ l. true ∷ l) (ones_both a b) ∙ ap ones (let e : suc (a + b) ≡ suc a + b = omega arith in e)

pub ones_none : (n : ℕ) → ones (n - n) ≡ []
unfolding ones
ones_none n = ap ones (let e : n - n ≡ 0 = omega arith in e)

pub ones_next : (n left : ℕ) → 32 ≤ left → left ≤ n → ones (n - left) ++ digits 32 4294967295 ≡ ones (n - (left - 32))
ones_next n left some le = ap (λ l. ones (n - left) ++ l) (ones_digits 32) ∙ ones_both (n - left) 32 ∙ ap ones (let e : n - left + 32 ≡ n - (left - 32) = omega arith in e)

pub unary_written : (x left : ℕ) → 1 ≤ x → left ≤ x - 1 → ones (x - 1 - left) ++ digits (left + 1) ((2 ^ left - 1) * 2) ≡ unary x
unary_written x left some le =
    ap (λ l. ones (x - 1 - left) ++ l) (unary_digits left) ∙ sym (append_assoc (ones (x - 1 - left)) (ones left) (false ∷ []))
    ∙ ap (λ l. l ++ false ∷ []) (ones_both (x - 1 - left) left ∙ ap ones (let e : x - 1 - left + left ≡ x - 1 = omega arith in e))
    ∙ sym (unary_next (x - 1)) ∙ ap unary (let e : x - 1 + 1 ≡ x = omega arith in e)
