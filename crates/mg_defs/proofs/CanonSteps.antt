-- How the first codewords of the lengths follow from one another.
use Rattle.std.proofs.Common.{◌≡◌, ℕ, zero, suc, ◌+◌, ◌-◌, ◌*◌, ◌/◌, ◌^◌, ◌<◌, ◌≤◌, true, false, cond, List, [], ◌∷◌, length, refl, sym, ap, ◌∙◌, subst, arith, take, get_or, ⊎_elim}
use Rattle.std.specs.Prelude.{nat_lt, ◌==◌, filter}
use Rattle.std.proofs.Math.Nat.{div-div-eq-div-mul, pow-succ', mul-div_cancel, mul-le-mul_left, pow-suc}
use Rattle.std.proofs.lemmas.Bool.Decides.{nat_tests}
use Rattle.std.proofs.lemmas.Bool.{cases_lt, cases_eq}
use Rattle.std.proofs.lemmas.List.Sums.{sum_by-cons}
use Rattle.std.proofs.lemmas.Nat.{pow_pos, pow-add}
use Rattle.mg_defs.specs.Canon.{kraft, longer, first_codeword, count_of, AreCodeLengths, codeword_value}

-- of the symbols of at most l bits, in units of 2 ^ (48 - l)
abbrev pub taken : ℕ → ℕ → ℕ
taken l k = cond (nat_lt l k) 0 (2 ^ (l - k))

abbrev pub shorter : ℕ → List ℕ → ℕ
shorter l [] = 0
shorter l (k ∷ lengths) = taken l k + shorter l lengths

pub count_of-cons : (l k : ℕ) (lengths : List ℕ) → count_of l (k ∷ lengths) ≡ cond (k == l) 1 0 + count_of l lengths
count_of-cons l k lengths = sum_by-cons (λ k. cond (k == l) 1 0) k lengths

pub longer-cons : (l k : ℕ) (lengths : List ℕ) → longer l (k ∷ lengths) ≡ cond (nat_lt l k) (2 ^ (48 - k)) 0 + longer l lengths
longer-cons l k lengths =
    let rest : List ℕ = filter (λ k. nat_lt l k) lengths in
    elim (nat_lt l k) as (λ b. kraft (cond b (k ∷ rest) rest) ≡ cond b (2 ^ (48 - k)) 0 + kraft rest) [
      | true ↦ sum_by-cons (λ l. 2 ^ (48 - l)) k rest
      | false ↦ omega arith
    ]

taken-all : (l k : ℕ) → l ≤ 48 → cond (nat_lt l k) (2 ^ (48 - k)) 0 + taken l k * 2 ^ (48 - l) ≡ 2 ^ (48 - k)
taken-all l k h = ⊎_elim
    (λ lt. grind (arith, nat_tests))
    (λ le. let p = pow-add 2 (l - k) (48 - l) in let e : l - k + (48 - l) ≡ 48 - k = omega arith in
    let q : 2 ^ (48 - k) ≡ 2 ^ (l - k) * 2 ^ (48 - l) = ap (λ n. 2 ^ n) (sym e) ∙ p in grind (arith, nat_tests))
    (cases_lt l k)

split : (l : ℕ) (lengths : List ℕ) → l ≤ 48 → longer l lengths + shorter l lengths * 2 ^ (48 - l) ≡ kraft lengths
split l [] h = omega arith
split l (k ∷ lengths) h =
    omega (arith, longer-cons l k lengths, taken-all l k h, split l lengths h, sum_by-cons (λ l. 2 ^ (48 - l)) k lengths)

taken-step : (l k : ℕ) → taken (suc l) k ≡ 2 * taken l k + cond (k == suc l) 1 0
taken-step l k = ⊎_elim
    (λ lt. ⊎_elim (λ same. let z : suc l - k ≡ 0 = omega arith in let one : 2 ^ (suc l - k) ≡ 1 = ap (λ n. 2 ^ n) z in grind (arith, nat_tests))
    (λ other. grind (arith, nat_tests)) (cases_eq k (suc l)))
    (λ le. let e : suc l - k ≡ suc (l - k) = omega arith in let q : 2 ^ (suc l - k) ≡ 2 ^ (l - k) * 2 = ap (λ n. 2 ^ n) e ∙ pow-suc 2 (l - k) in grind (arith, nat_tests))
    (cases_lt l k)

shorter-step : (l : ℕ) (lengths : List ℕ) → shorter (suc l) lengths ≡ 2 * shorter l lengths + count_of (suc l) lengths
shorter-step l [] = omega arith
shorter-step l (k ∷ lengths) = omega (arith, taken-step l k, shorter-step l lengths, count_of-cons (suc l) k lengths)

difference : (part q rest all unit : ℕ) → part + rest * unit ≡ all * unit → q + rest ≡ all → part ≡ q * unit
difference part q rest all unit e f = let m = ap (λ n. n * unit) f in omega arith

exact : (part rest all unit : ℕ) → 0 < unit → part + rest * unit ≡ all * unit → part / unit + rest ≡ all
exact part rest all unit pos e =
    let le : rest ≤ all = ⊎_elim (λ lt. absurd (omega (arith, mul-le-mul_left unit lt))) (λ le. le) (cases_lt all rest) in
    let q : all - rest + rest ≡ all = omega arith in
    let p : part ≡ (all - rest) * unit = difference part (all - rest) rest all unit e q in
    ap (λ n. n / unit + rest) p ∙ ap (λ n. n + rest) (mul-div_cancel (all - rest) pos) ∙ q

whole_part : (part rest all unit : ℕ) → 0 < unit → part + rest * unit ≡ all * unit → part / unit * unit ≡ part
whole_part part rest all unit pos e =
    let q = exact part rest all unit pos e in
    let m = ap (λ n. n * unit) q in
    omega arith

-- the whole in units of what a codeword of l bits takes
in_units : (l : ℕ) (lengths : List ℕ) → l ≤ 48 → kraft lengths ≡ 2 ^ 48 → longer l lengths + shorter l lengths * 2 ^ (48 - l) ≡ 2 ^ l * 2 ^ (48 - l)
in_units l lengths h full =
    let e : l + (48 - l) ≡ 48 = omega arith in
    split l lengths h ∙ full ∙ ap (λ n. 2 ^ n) (sym e) ∙ pow-add 2 l (48 - l)

pub longer-whole : (l : ℕ) (lengths : List ℕ) → l ≤ 48 → kraft lengths ≡ 2 ^ 48 → first_codeword l lengths * 2 ^ (48 - l) ≡ longer l lengths
longer-whole l lengths h full = whole_part (longer l lengths) (shorter l lengths) (2 ^ l) (2 ^ (48 - l)) (pow_pos (48 - l)) (in_units l lengths h full)

-- the first number of a length is exact
pub first-exact : (l : ℕ) (lengths : List ℕ) → l ≤ 48 → kraft lengths ≡ 2 ^ 48 → first_codeword l lengths + shorter l lengths ≡ 2 ^ l
first-exact l lengths h full =
    exact (longer l lengths) (shorter l lengths) (2 ^ l) (2 ^ (48 - l)) (pow_pos (48 - l)) (in_units l lengths h full)

pub first-step : (l : ℕ) (lengths : List ℕ) → l < 48 → kraft lengths ≡ 2 ^ 48 → first_codeword (suc l) lengths + count_of (suc l) lengths ≡ 2 * first_codeword l lengths
first-step l lengths h full =
    omega (arith, first-exact l lengths (omega arith) full, first-exact (suc l) lengths (omega arith) full, shorter-step l lengths, pow-suc 2 l)

shorter-zero : (lengths : List ℕ) → AreCodeLengths lengths → shorter 0 lengths ≡ 0
shorter-zero [] all = refl
shorter-zero (k ∷ lengths) all = let p : 1 ≤ k = all.0.0 in let r = shorter-zero lengths all.1 in grind (arith, nat_tests)

pub first-zero : (lengths : List ℕ) → AreCodeLengths lengths → kraft lengths ≡ 2 ^ 48 → first_codeword 0 lengths ≡ 1
first-zero lengths all full = omega (arith, first-exact 0 lengths (omega arith) full, shorter-zero lengths all)

longer-last : (lengths : List ℕ) → AreCodeLengths lengths → longer 48 lengths ≡ 0
longer-last [] all = refl
longer-last (k ∷ lengths) all = let p : k ≤ 48 = all.0.1 in let r = longer-last lengths all.1 in let c = longer-cons 48 k lengths in grind (arith, nat_tests)

pub first-last : (lengths : List ℕ) → AreCodeLengths lengths → first_codeword 48 lengths ≡ 0
first-last lengths all = ap (λ n. n / 2 ^ (48 - 48)) (longer-last lengths all)

-- a code of a later length goes on past each earlier one
pub goes_on : (l v : ℕ) (lengths : List ℕ) → l < 48 → kraft lengths ≡ 2 ^ 48 → v < first_codeword (suc l) lengths + count_of (suc l) lengths → v / 2 < first_codeword l lengths
goes_on l v lengths h full lt = omega (arith, first-step l lengths h full)

-- the symbol that is the r-th of its length
count_of-same : (k : ℕ) (lengths : List ℕ) (l : ℕ) → k ≡ l → count_of l (k ∷ lengths) ≡ suc (count_of l lengths)
count_of-same k lengths l same = let c = count_of-cons l k lengths in grind (arith, nat_tests)

count_of-other : (k : ℕ) (lengths : List ℕ) (l : ℕ) → (k ≡ l → ⊥) → count_of l (k ∷ lengths) ≡ count_of l lengths
count_of-other k lengths l other = let c = count_of-cons l k lengths in grind (arith, nat_tests)

pub nth : (lengths : List ℕ) (l r : ℕ) → r < count_of l lengths → (s : ℕ) × (s < length lengths) × (get_or lengths s 0 ≡ l) × (count_of l (take s lengths) ≡ r)
nth [] l r h = absurd (omega arith)
nth (k ∷ lengths) l r h = ⊎_elim
    (λ same. elim r as (λ r. r < count_of l (k ∷ lengths) → (s : ℕ) × (s < length (k ∷ lengths)) × (get_or (k ∷ lengths) s 0 ≡ l) × (count_of l (take s (k ∷ lengths)) ≡ r)) [
      | zero ↦ λ g. (0, omega arith, same, refl)
      | suc q ↦ λ g.
          let c = count_of-same k lengths l same in
          let n = nth lengths l q (omega arith) in
          (suc n.0, omega (arith, n.1), n.2, count_of-same k (take n.0 lengths) l same ∙ ap suc n.3)
    ] h)
    (λ other.
    let c : count_of l (k ∷ lengths) ≡ count_of l lengths = count_of-other k lengths l other in
    let n = nth lengths l r (omega arith) in
    (suc n.0, omega (arith, n.1), n.2, count_of-other k (take n.0 lengths) l other ∙ n.3))
    (cases_eq k l)

-- two symbols of one length and one place among it are one
pub nth-once : (lengths : List ℕ) (l s t : ℕ) → s < length lengths → t < length lengths → get_or lengths s 0 ≡ l → get_or lengths t 0 ≡ l →
    count_of l (take s lengths) ≡ count_of l (take t lengths) → s ≡ t
nth-once [] l s t a b p q e = absurd (omega arith)
nth-once (k ∷ lengths) l zero zero a b p q e = refl
nth-once (k ∷ lengths) l zero (suc t) a b p q e = absurd (omega (arith, e, count_of-same k (take t lengths) l p))
nth-once (k ∷ lengths) l (suc s) zero a b p q e = absurd (omega (arith, e, count_of-same k (take s lengths) l q))
nth-once (k ∷ lengths) l (suc s) (suc t) a b p q e = ap suc
    (nth-once lengths l s t (omega arith) (omega arith) p q (omega (arith, e, count_of-cons l k (take s lengths), count_of-cons l k (take t lengths))))

-- the value of a codeword lies in the range of its length
pub count_of-below : (lengths : List ℕ) (l s : ℕ) → s < length lengths → get_or lengths s 0 ≡ l → count_of l (take s lengths) < count_of l lengths
count_of-below [] l s h e = absurd (omega arith)
count_of-below (k ∷ lengths) l zero h e = omega (arith, count_of-same k lengths l e)
count_of-below (k ∷ lengths) l (suc s) h e = omega (arith, count_of-cons l k lengths, count_of-cons l k (take s lengths), count_of-below lengths l s (omega arith) e)

pub value-below : (lengths : List ℕ) (s : ℕ) → s < length lengths → codeword_value lengths s < first_codeword (get_or lengths s 0) lengths + count_of (get_or lengths s 0) lengths
value-below lengths s h = omega (arith, count_of-below lengths (get_or lengths s 0) s h refl)

-- the front of a longer code does not stop: its first l bits lie below the first number of l bits
pub goes_far : (j l n v : ℕ) (lengths : List ℕ) → n ≡ suc j + l → n ≤ 48 → kraft lengths ≡ 2 ^ 48 → v < first_codeword n lengths + count_of n lengths → v / 2 ^ suc j < first_codeword l lengths
goes_far zero l n v lengths e h full lt =
    let m : n ≡ suc l = omega arith in
    let g = goes_on l v lengths (omega arith) full (subst (λ k. v < first_codeword k lengths + count_of k lengths) m lt) in
    g
goes_far (suc j) l n v lengths e h full lt =
    let m : n ≡ suc (suc j + l) = omega arith in
    let one = goes_on (suc j + l) v lengths (omega arith) full (subst (λ k. v < first_codeword k lengths + count_of k lengths) m lt) in
    let far = goes_far j l (suc j + l) (v / 2) lengths refl (omega arith) full (omega arith) in
    let d : v / 2 / 2 ^ suc j ≡ v / 2 ^ suc (suc j) = div-div-eq-div-mul v 2 (2 ^ suc j) ∙ ap (λ k. v / k) (sym (pow-succ' 2 (suc j))) in
    subst (λ k. k < first_codeword l lengths) d far
