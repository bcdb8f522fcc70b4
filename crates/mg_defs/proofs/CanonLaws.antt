-- No codeword of good lengths is a prefix of another, and no string of bits is left over.
use Rattle.std.proofs.Common.{◌≡◌, ℕ, zero, suc, ◌+◌, ◌-◌, ◌*◌, ◌/◌, ◌%◌, ◌^◌, ◌<◌, ◌≤◌, false, cond, List, [], ◌∷◌, ◌++◌, length, refl, sym, ap, ◌∙◌, subst, arith, take, get_or, ⊎_elim, length-take}
use Rattle.std.proofs.lemmas.Bool.Decides.{nat_tests}
use Rattle.std.proofs.lemmas.Bool.{cases_lt, cases_eq}
use Rattle.std.proofs.Math.Seq.{take-length}
use Rattle.std.proofs.lemmas.List.{take-append-le}
use Rattle.std.proofs.Math.Nat.{div-div-eq-div-mul, pow-succ', mod-eq_of_lt}
use Rattle.std.specs.Prelude.{◌==◌}
use Rattle.mg_defs.specs.Bits.{Bits, digits, Begins}
use Rattle.mg_defs.specs.Canon.{kraft, first_codeword, count_of, AreCodeLengths, AreGood, codeword_value, codeword, longer}
use Rattle.mg_defs.specs.Answers.{Below, IsPrefixFree}
use Rattle.mg_defs.proofs.BitLaws.{length_digits, digits_same}
use Rattle.mg_defs.proofs.FrontLaws.{begins_append, begins_first}
use Rattle.mg_defs.proofs.CanonSteps.{first-exact, first-step, first-last, longer-whole, goes_far, value-below, shorter, taken, count_of-cons, nth, nth-once}

pub one_part : (c : ℕ) → c / 2 ^ 0 ≡ c
one_part c = omega arith

pub half_parts : (j c : ℕ) → c / 2 / 2 ^ j ≡ c / 2 ^ suc j
half_parts j c = div-div-eq-div-mul c 2 (2 ^ j) ∙ ap (λ k. c / k) (sym (pow-succ' 2 j))

-- the lowest digit apart
pub digits-low : (n c : ℕ) → digits (suc n) c ≡ digits n (c / 2) ++ (c % 2 == 1) ∷ []
unfolding digits
digits-low zero c = let e = one_part c in rw e
digits-low (suc n) c = let e = half_parts n c in let f = digits-low n c in rw (e, f)

-- the first l digits of a number
pub digits-front : (j l n c : ℕ) → n ≡ j + l → take l (digits n c) ≡ digits l (c / 2 ^ j)
digits-front zero l n c e =
    let m : n ≡ l = omega arith in
    let one = one_part c in
    rw (m, one) (ap (λ k. take k (digits l c)) (sym (length_digits l c)) ∙ take-length (digits l c))
digits-front (suc j) l n c e =
    let m : n ≡ suc (j + l) = omega arith in
    let fits : l ≤ length (digits (j + l) (c / 2)) = omega (arith, length_digits (j + l) (c / 2)) in
    ap (λ k. take l (digits k c)) m ∙ ap (take l) (digits-low (j + l) c) ∙ take-append-le l (digits (j + l) (c / 2)) ((c % 2 == 1) ∷ []) fits
    ∙ digits-front j l (j + l) (c / 2) refl ∙ ap (λ k. digits l k) (half_parts j c)

pub digits-same : (n a b : ℕ) → a < 2 ^ n → b < 2 ^ n → digits n a ≡ digits n b → a ≡ b
digits-same n a b h k e = sym (mod-eq_of_lt h) ∙ digits_same n a b e ∙ mod-eq_of_lt k

taken-count : (l k : ℕ) → cond (k == l) 1 0 ≤ taken l k
taken-count l k = ⊎_elim (λ same. let z : l - k ≡ 0 = omega arith in let one : 2 ^ (l - k) ≡ 1 = ap (λ n. 2 ^ n) z in grind (arith, nat_tests)) (λ other. grind (arith, nat_tests)) (cases_eq k l)

count_of-shorter : (l : ℕ) (lengths : List ℕ) → count_of l lengths ≤ shorter l lengths
count_of-shorter l [] = omega arith
count_of-shorter l (k ∷ lengths) = omega (arith, count_of-cons l k lengths, taken-count l k, count_of-shorter l lengths)

-- a number in the range of its length fits it
pub fits_length : (l v : ℕ) (lengths : List ℕ) → l ≤ 48 → kraft lengths ≡ 2 ^ 48 → v < first_codeword l lengths + count_of l lengths → v < 2 ^ l
fits_length l v lengths h full lt = omega (arith, first-exact l lengths h full, count_of-shorter l lengths)

begins_shorter : (l n v w : ℕ) → Begins (digits l v) (digits n w) → l ≤ n
begins_shorter l n v w begins =
    let e = ap length begins in
    let t = length-take (length (digits l v)) (digits n w) in
    omega (arith, length_digits l v, length_digits n w)

pub shifted : (j l n c : ℕ) → n ≡ j + l → c < 2 ^ n → c / 2 ^ j < 2 ^ l
shifted zero l n c e h = let m : n ≡ l = omega arith in let one = one_part c in rw one (subst (λ k. c < 2 ^ k) m h)
shifted (suc j) l n c e h =
    let m : n ≡ suc (j + l) = omega arith in
    let g : c < 2 ^ suc (j + l) = subst (λ k. c < 2 ^ k) m h in
    subst (λ k. k < 2 ^ l) (half_parts j c) (shifted j l (j + l) (c / 2) refl (omega arith))

pub within_short : (lengths : List ℕ) (s : ℕ) → AreCodeLengths lengths → s < length lengths → (1 ≤ get_or lengths s 0) × (get_or lengths s 0 ≤ 48)
within_short [] s all h = absurd (omega arith)
within_short (l ∷ lengths) zero all h = all.0
within_short (l ∷ lengths) (suc s) all h = within_short lengths s all.1 (omega arith)

pub codeword-many : (lengths : List ℕ) (s : ℕ) → 2 ≤ length lengths → codeword lengths s ≡ digits (get_or lengths s 0) (codeword_value lengths s)
codeword-many [] s h = absurd (omega arith)
codeword-many (l ∷ []) s h = absurd (omega arith)
codeword-many (l ∷ m ∷ lengths) s h = refl

pub good_within : (lengths : List ℕ) → AreGood lengths → 2 ≤ length lengths → AreCodeLengths lengths
good_within [] good h = absurd (omega arith)
good_within (l ∷ []) good h = absurd (omega arith)
good_within (l ∷ m ∷ lengths) good h = good.0

pub good_full : (lengths : List ℕ) → AreGood lengths → 2 ≤ length lengths → kraft lengths ≡ 2 ^ 48
good_full [] good h = absurd (omega arith)
good_full (l ∷ []) good h = absurd (omega arith)
good_full (l ∷ m ∷ lengths) good h = good.1

-- a codeword has as many bits as its length says
pub length-codeword : (lengths : List ℕ) (s : ℕ) → AreGood lengths → s < length lengths → length (codeword lengths s) ≡ get_or lengths s 0
length-codeword [] s good h = absurd (omega arith)
length-codeword (l ∷ []) zero good h = sym good
length-codeword (l ∷ []) (suc s) good h = absurd (omega arith)
length-codeword (l ∷ m ∷ lengths) s good h = length_digits (get_or (l ∷ m ∷ lengths) s 0) (codeword_value (l ∷ m ∷ lengths) s)

front_of : (w more code : Bits) → code ≡ w ++ more → Begins w code
front_of w more code e = subst (λ c. Begins w c) (sym e) (begins_append w more)

zero_bit : (l v : ℕ) → digits (suc l) (2 * v) ≡ digits l v ++ false ∷ []
zero_bit l v =
    let q : 2 * v / 2 ≡ v = omega arith in
    let r : 2 * v % 2 ≡ 0 = omega arith in
    digits-low l (2 * v) ∙ ap (λ n. digits l n ++ (2 * v % 2 == 1) ∷ []) q ∙ ap (λ n. digits l v ++ (n == 1) ∷ []) r

-- ---- two or more lengths, which fill the whole

module _ (lengths : List ℕ) (within : AreCodeLengths lengths) (full : kraft lengths ≡ 2 ^ 48) where
  abbrev pub code : ℕ → Bits
  code s = digits (get_or lengths s 0) (codeword_value lengths s)

  pub value_fits : (s : ℕ) → s < length lengths → codeword_value lengths s < 2 ^ get_or lengths s 0
  value_fits s h = fits_length (get_or lengths s 0) (codeword_value lengths s) lengths (within_short lengths s within h).1 full (value-below lengths s h)

  -- where one codeword begins another, the front of the other's value is the value of the one
  front_value : (s t : ℕ) → s < length lengths → t < length lengths → Begins (code s) (code t) → (j : ℕ) → get_or lengths t 0 ≡ j + get_or lengths s 0 →
      codeword_value lengths t / 2 ^ j ≡ codeword_value lengths s
  front_value s t h k begins j e =
      let n : ℕ = get_or lengths t 0 in
      let l : ℕ = get_or lengths s 0 in
      let front : take l (code t) ≡ code s = ap (λ i. take i (code t)) (sym (length_digits l (codeword_value lengths s))) ∙ begins in
      let same : digits l (codeword_value lengths t / 2 ^ j) ≡ digits l (codeword_value lengths s) = sym (digits-front j l n (codeword_value lengths t) e) ∙ front in
      digits-same l (codeword_value lengths t / 2 ^ j) (codeword_value lengths s) (shifted j l n (codeword_value lengths t) e (value_fits t k)) (value_fits s h) same

  pub prefix_free_many : (s t : ℕ) → s < length lengths → t < length lengths → Begins (code s) (code t) → s ≡ t
  prefix_free_many s t h k begins =
      let l : ℕ = get_or lengths s 0 in
      let n : ℕ = get_or lengths t 0 in
      let no_longer : l ≤ n = begins_shorter l n (codeword_value lengths s) (codeword_value lengths t) begins in
      ⊎_elim
      (λ lt.
      let j : ℕ = n - l - 1 in
      let e : n ≡ suc j + l = omega arith in
      let v = front_value s t h k begins (suc j) e in
      let far = goes_far j l n (codeword_value lengths t) lengths e (within_short lengths t within k).1 full (value-below lengths t k) in
      absurd (omega arith))
      (λ le.
      let e : n ≡ l = omega arith in
      let o : n ≡ 0 + l = omega arith in
      let v = front_value s t h k begins 0 o in
      let w : codeword_value lengths t ≡ codeword_value lengths s = sym (one_part (codeword_value lengths t)) ∙ v in
      let f = ap (λ i. first_codeword i lengths + count_of i (take t lengths)) e in
      nth-once lengths l s t h k refl e (omega arith))
      (cases_lt l n)

  -- a number below the first codeword of its length begins a longer codeword
  pub goes_on_to : (k l v : ℕ) → k + l ≡ 48 → v < first_codeword l lengths → (s : ℕ) × (s < length lengths) × (l < get_or lengths s 0) × Begins (digits l v) (code s)
  goes_on_to zero l v e lt = absurd (let m : l ≡ 48 = omega arith in omega (arith, first-last lengths within, ap (λ n. first_codeword n lengths) m))
  goes_on_to (suc k) l v e lt =
      let step = first-step l lengths (omega arith) full in
      let bit = zero_bit l v in
      ⊎_elim
      (λ less.
      let r = goes_on_to k (suc l) (2 * v) (omega arith) less in
      let longer : l < get_or lengths r.0 0 = omega (arith, r.2) in
      (r.0, r.1, longer, begins_first (digits l v) (false ∷ []) (code r.0) (subst (λ w. Begins w (code r.0)) bit r.3)))
      (λ stop.
      let r = nth lengths (suc l) (2 * v - first_codeword (suc l) lengths) (omega arith) in
      let n : get_or lengths r.0 0 ≡ suc l = r.2 in
      let c : codeword_value lengths r.0 ≡ 2 * v = ap (λ i. first_codeword i lengths + count_of i (take r.0 lengths)) n ∙ (let p = r.3 in omega arith) in
      let w : code r.0 ≡ digits l v ++ false ∷ [] = ap (λ i. digits i (codeword_value lengths r.0)) n ∙ ap (digits (suc l)) c ∙ bit in
      let longer : l < get_or lengths r.0 0 = omega arith in
      (r.0, r.1, longer, front_of (digits l v) (false ∷ []) (code r.0) w))
      (cases_lt (2 * v) (first_codeword (suc l) lengths))

one_symbol : (lengths : List ℕ) → AreGood lengths → (s t : ℕ) → s < length lengths → t < length lengths → Begins (codeword lengths s) (codeword lengths t) → s ≡ t
one_symbol [] good s t h k begins = absurd (omega arith)
one_symbol (l ∷ []) good s t h k begins = omega arith
one_symbol (l ∷ m ∷ lengths) good s t h k begins = prefix_free_many (l ∷ m ∷ lengths) good.0 good.1 s t h k begins

pub codewords_free : (lengths : List ℕ) → AreGood lengths → IsPrefixFree (Below (length lengths)) (codeword lengths)
codewords_free lengths good = record { one = one_symbol lengths good }

-- the division that gives the first codeword of a length leaves nothing over
pub first-whole : (lengths : List ℕ) (l : ℕ) → AreGood lengths → 2 ≤ length lengths → l ≤ 48 → first_codeword l lengths * 2 ^ (48 - l) ≡ longer l lengths
first-whole lengths l good many h = longer-whole l lengths h (good_full lengths good many)
