-- Laws of the codes: their lengths, and that none is a proper front of another.
use Rattle.std.proofs.Common.{arith, suc, zero, ◌≡◌, ◌+◌, ◌*◌, ◌/◌, ◌%◌, ◌^◌, ◌≤◌, ◌<◌, ◌-◌, ℕ, true, false, [], ◌∷◌, ◌++◌, length, take, refl, sym, ◌∙◌, ap, subst, length-append, nat_le, inl, inr, append-nil}
use Rattle.std.proofs.lemmas.Bool.{cond_both, leb-true, leb-false, cases_lt, cond-true, cond-false, lt-ltb, le-ltb}
use Rattle.std.proofs.lemmas.Nat.{pow_pos, mod_low, div-mul-add, mod-mul-add}
use Rattle.std.proofs.Math.Nat.{two-pow-succ, div-add-mod, mod-eq_of_lt}
use Rattle.std.proofs.Math.Pow.{pow_mono}
use Rattle.mg_defs.specs.Bits.{Bits, Begins, digits}
use Rattle.mg_defs.specs.Codes.{ones, unary, gamma, short, shorter, golomb, log2, ceil_log2}
use Rattle.mg_defs.specs.Answers.{UpTo, Below, IsPrefixFree}
use Rattle.mg_defs.proofs.FixedLaws.{IsLog, is_log, one_log}
use Rattle.mg_defs.proofs.BitLaws.{length_digits, digits_mod, digits_same, take_digits}
use Rattle.mg_defs.proofs.FrontLaws.{begins_length, begins_whole}

-- ---- unary

pub length_ones : (n : ℕ) → length (ones n) ≡ n
unfolding ones
length_ones zero = refl
length_ones (suc n) = ap suc (length_ones n)

pub unary_next : (n : ℕ) → unary (n + 1) ≡ ones n ++ false ∷ []
unfolding unary
unary_next n = let e : n + 1 - 1 ≡ n = omega arith in rw e refl

pub unary_after : (n : ℕ) → unary (1 + n) ≡ ones n ++ false ∷ []
unary_after n = ap unary (let e : 1 + n ≡ n + 1 = omega arith in e) ∙ unary_next n

pub length_unary : (n : ℕ) → length (unary (n + 1)) ≡ n + 1
length_unary n = rw (unary_next n, length-append, length_ones n) refl

pub length_unary_after : (n : ℕ) → length (unary (1 + n)) ≡ 1 + n
length_unary_after n = rw (unary_after n, length-append, length_ones n) (omega arith)

pub ones_more : (n : ℕ) → ones n ++ true ∷ [] ≡ ones (n + 1)
unfolding ones
ones_more zero = refl
ones_more (suc n) = let e : suc n + 1 ≡ suc (n + 1) = omega arith in rw e (ap (λ l. true ∷ l) (ones_more n))

pub ones_begin : (n : ℕ) (more : Bits) → Begins (ones n) (ones n ++ more)
unfolding ones
ones_begin zero more = refl
ones_begin (suc n) more = ap (λ l. true ∷ l) (ones_begin n more)

-- a zero-bit ends no front of one-bits
pub ones_have_no_zero : (a b : ℕ) → Begins (ones a ++ false ∷ []) (ones b) → ⊥
unfolding ones
ones_have_no_zero zero zero h = cc
ones_have_no_zero zero (suc b) h = cc
ones_have_no_zero (suc a) zero h = cc
ones_have_no_zero (suc a) (suc b) h = ones_have_no_zero a b cc

pub ones_begin_long : (a b : ℕ) → Begins (ones a) (ones b ++ false ∷ []) → a ≤ b
unfolding ones
ones_begin_long zero b h = omega arith
ones_begin_long (suc a) zero h = absurd cc
ones_begin_long (suc a) (suc b) h = omega (arith, ones_begin_long a b (let e : take (length (ones a)) (ones b ++ false ∷ []) ≡ ones a = cc in e))

-- unary codes that stand first are one, and what follows agrees
pub fronts_meet : (n m : ℕ) (p q : Bits) → Begins ((ones n ++ false ∷ []) ++ p) ((ones m ++ false ∷ []) ++ q) → (n ≡ m) × Begins p q
unfolding ones
fronts_meet zero zero p q h = (refl, cc)
fronts_meet zero (suc m) p q h = absurd cc
fronts_meet (suc n) zero p q h = absurd cc
fronts_meet (suc n) (suc m) p q h =
    let e : take (length ((ones n ++ false ∷ []) ++ p)) ((ones m ++ false ∷ []) ++ q) ≡ (ones n ++ false ∷ []) ++ p = cc in
    let r : (n ≡ m) × Begins p q = fronts_meet n m p q e in
    (ap suc r.0, r.1)

pub unaries_meet : (n m : ℕ) (p q : Bits) → Begins (unary (1 + n) ++ p) (unary (1 + m) ++ q) → (n ≡ m) × Begins p q
unaries_meet n m p q h = fronts_meet n m p q (rw (unary_after n, unary_after m) at h)

zeros_meet : (a b : ℕ) → Begins (ones a ++ false ∷ []) (ones b ++ false ∷ []) → a ≡ b
zeros_meet a b h = (fronts_meet a b [] [] (rw (append-nil (ones a ++ false ∷ []), append-nil (ones b ++ false ∷ [])) h)).0

pub unary_free : (limit : ℕ) → IsPrefixFree (UpTo limit) unary
unfolding unary
unary_free limit = record { one = λ x y tx ty h. omega (arith, zeros_meet (x - 1) (y - 1) h, tx.0, ty.0) }

-- ---- gamma

-- a number's bits below its highest one
lower_bits : (n x : ℕ) → IsLog x n → digits n (x - 2 ^ n) ≡ digits n x
lower_bits n x is =
    let below : x - 2 ^ n < 2 ^ n = omega (arith, is.high, two-pow-succ n) in
    let e : 1 * 2 ^ n + (x - 2 ^ n) ≡ x = omega (arith, is.low) in
    ap (digits n) (sym (mod_low 1 n (x - 2 ^ n) below) ∙ ap (λ y. y % 2 ^ n) e) ∙ digits_mod n n x (omega arith)

pub gamma_is : (n x : ℕ) → IsLog x n → x < 2 ^ 64 → gamma x ≡ unary (1 + n) ++ digits n x
unfolding gamma
gamma_is n x is small =
    let some : 1 ≤ x = omega (arith, is.low, pow_pos n) in
    let e : log2 x ≡ n = one_log x _ _ (is_log x some small) is in
    ap (λ m. unary (1 + m) ++ digits m (x - 2 ^ m)) e ∙ ap (λ l. unary (1 + n) ++ l) (lower_bits n x is)

pub length_gamma : (n x : ℕ) → IsLog x n → x < 2 ^ 64 → length (gamma x) ≡ n + 1 + n
length_gamma n x is small = rw (gamma_is n x is small, length-append, length_unary_after, length_digits) (omega arith)

leading_mod : (k a : ℕ) → IsLog a k → a % 2 ^ k ≡ a - 2 ^ k
leading_mod k a is =
    let e : a ≡ 1 * 2 ^ k + (a - 2 ^ k) = omega (arith, is.low) in
    let below : a - 2 ^ k < 2 ^ k = omega (arith, is.high, two-pow-succ k) in
    ap (λ n. n % 2 ^ k) e ∙ mod_low 1 k (a - 2 ^ k) below

-- numbers with the same leading bit and the same bits below are one
pub leading_same : (k a b : ℕ) → IsLog a k → IsLog b k → digits k a ≡ digits k b → a ≡ b
leading_same k a b la lb same = omega (arith, digits_same k a b same, leading_mod k a la, leading_mod k b lb, la.low, lb.low)

gammas_meet : (n m x y : ℕ) → IsLog x n → IsLog y m → Begins (unary (1 + n) ++ digits n x) (unary (1 + m) ++ digits m y) → x ≡ y
gammas_meet n m x y lx ly h =
    let met : (n ≡ m) × Begins (digits n x) (digits m y) = unaries_meet n m _ _ h in
    let same : digits n x ≡ digits m y = begins_whole _ _ met.1 (omega (arith, met.0, length_digits n x, length_digits m y)) in
    leading_same n x y lx (subst (IsLog y) (sym met.0) ly) (same ∙ ap (λ k. digits k y) (sym met.0))

pub gamma_free : (limit : ℕ) → limit < 2 ^ 64 → IsPrefixFree (UpTo limit) gamma
gamma_free limit small = record {
  one = λ x y tx ty h.
      let lx = is_log x tx.0 (omega (arith, tx.1, small)) in
      let ly = is_log y ty.0 (omega (arith, ty.1, small)) in
      gammas_meet (log2 x) (log2 y) x y lx ly (rw (gamma_is (log2 x) x lx (omega (arith, tx.1, small)), gamma_is (log2 y) y ly (omega (arith, ty.1, small))) at h);
}

-- ---- short

-- k is the least number with 2 ^ k at least b
pub record IsCeil (b k : ℕ) : Type 0 where
  pub high : b ≤ 2 ^ k
  pub low : 1 ≤ k → 2 ^ (k - 1) < b

pub is_ceil : (b : ℕ) → 1 ≤ b → b ≤ 2 ^ 64 → IsCeil b (ceil_log2 b)
unfolding ceil_log2
is_ceil b some small =
    cond_both (nat_le b 1) 0 (1 + log2 (b - 1)) (IsCeil b)
    (λ t. record { high = omega (arith, leb-true b 1 t); low = λ one. absurd (omega arith) })
    (λ f.
    let two : 1 < b = leb-false b 1 f in
    let log = is_log (b - 1) (omega arith) (omega arith) in
    let e : 1 + log2 (b - 1) ≡ suc (log2 (b - 1)) = omega arith in
    let down : 1 + log2 (b - 1) - 1 ≡ log2 (b - 1) = omega arith in
    record {
      high = rw e (omega (arith, log.high));
      low = λ one. rw down (omega (arith, log.low));
    })

pub one_ceil : (b k l : ℕ) → IsCeil b k → IsCeil b l → k ≡ l
one_ceil b k l p q = omega (arith, ceil_order b k l p q, ceil_order b l k q p)
  where
    ceil_order : (b k l : ℕ) → IsCeil b k → IsCeil b l → k ≤ l
    ceil_order b k l p q = elim (cases_lt l k) [
      | inl lt ↦ absurd (let le : l ≤ k - 1 = omega (arith, lt) in let up : 2 ^ l ≤ 2 ^ (k - 1) = pow_mono le in omega (arith, up, p.low (omega (arith, lt)), q.high))
      | inr ge ↦ ge
    ]

-- the code of a remainder below the number of shorter ones, and of another
pub short_low : (b r : ℕ) → r < shorter b → short b r ≡ digits (ceil_log2 b - 1) r
unfolding short
short_low b r lt = cond-true _ _ _ (lt-ltb r (shorter b) lt)

pub short_high : (b r : ℕ) → shorter b ≤ r → short b r ≡ digits (ceil_log2 b) (r + shorter b)
unfolding short
short_high b r le = cond-false _ _ _ (le-ltb r (shorter b) le)

-- the code of one remainder alone is empty; of two and more, 2 ^ j remainders would be too few
pub record IsWide (b j : ℕ) : Type 0 where
  pub ceil : ceil_log2 b ≡ suc j
  pub shorter_is : b + shorter b ≡ 2 ^ suc j
  pub more : 2 ^ j < b

pub wide : (b : ℕ) → 2 ≤ b → b ≤ 2 ^ 64 → IsWide b (ceil_log2 b - 1)
unfolding shorter
wide b two small =
    let is : IsCeil b (ceil_log2 b) = is_ceil b (omega arith) small in
    let some : 1 ≤ ceil_log2 b = positive (ceil_log2 b) is.high in
    let up : suc (ceil_log2 b - 1) ≡ ceil_log2 b = omega arith in
    record {
      ceil = sym up;
      shorter_is = rw up (omega (arith, is.high));
      more = is.low some;
    }
  where
    positive : (k : ℕ) → b ≤ 2 ^ k → 1 ≤ k
    positive zero h = absurd (omega arith)
    positive (suc k) h = omega arith

pub small_digits : (k a b : ℕ) → a < 2 ^ k → b < 2 ^ k → digits k a ≡ digits k b → a ≡ b
small_digits k a b la lb same = sym (mod-eq_of_lt la) ∙ digits_same k a b same ∙ mod-eq_of_lt lb

-- the first bits of a longer code are no shorter code
longer_code : (j m r s : ℕ) → r < m → m ≤ s → m < 2 ^ j → s + m < 2 ^ suc j → Begins (digits j r) (digits (suc j) (s + m)) → ⊥
longer_code j m r s low high few below h =
    let t : take j (digits (suc j) (s + m) ++ []) ≡ digits j ((s + m) / 2 ^ 1) = take_digits j (suc j) 1 (s + m) [] (omega arith) in
    let begun : take (length (digits j r)) (digits (suc j) (s + m)) ≡ digits j r = h in
    let begun : take j (digits (suc j) (s + m)) ≡ digits j r = rw length_digits at begun in
    let same : digits j ((s + m) / 2 ^ 1) ≡ digits j r = sym t ∙ ap (take j) (append-nil (digits (suc j) (s + m))) ∙ begun in
    let half : (s + m) / 2 ^ 1 < 2 ^ j = omega (arith, two-pow-succ j) in
    let e : (s + m) / 2 ^ 1 ≡ r = small_digits j ((s + m) / 2 ^ 1) r half (omega arith) same in
    omega arith

shorts_meet : (b j r s : ℕ) → IsWide b j → r < b → s < b → Begins (short b r) (short b s) → r ≡ s
shorts_meet b j r s w lr ls h =
    let down : ceil_log2 b - 1 ≡ j = omega (arith, w.ceil) in
    let few : shorter b < 2 ^ j = omega (arith, w.more, w.shorter_is, two-pow-succ j) in
    elim (cases_lt r (shorter b)) [
      | inl rl ↦ elim (cases_lt s (shorter b)) [
        | inl sl ↦
            let h : Begins (digits j r) (digits j s) = rw (short_low b r rl, short_low b s sl, down) at h in
            small_digits j r s (omega (arith, rl, few)) (omega (arith, sl, few)) (begins_whole _ _ h (omega (arith, length_digits j r, length_digits j s)))
        | inr sh ↦
            let h : Begins (digits j r) (digits (suc j) (s + shorter b)) = rw (short_low b r rl, short_high b s sh, down, w.ceil) at h in
            absurd (longer_code j (shorter b) r s rl sh few (omega (arith, ls, w.shorter_is)) h)
      ]
      | inr rh ↦ elim (cases_lt s (shorter b)) [
        | inl sl ↦
            let h : Begins (digits (suc j) (r + shorter b)) (digits j s) = rw (short_high b r rh, short_low b s sl, down, w.ceil) at h in
            absurd (omega (arith, begins_length _ _ h, length_digits (suc j) (r + shorter b), length_digits j s))
        | inr sh ↦
            let h : Begins (digits (suc j) (r + shorter b)) (digits (suc j) (s + shorter b)) = rw (short_high b r rh, short_high b s sh, w.ceil) at h in
            omega (
              arith,
              small_digits (suc j) (r + shorter b) (s + shorter b) (omega (arith, lr, w.shorter_is)) (omega (arith, ls, w.shorter_is))
                  (begins_whole _ _ h (omega (arith, length_digits (suc j) (r + shorter b), length_digits (suc j) (s + shorter b)))),
            )
      ]
    ]

pub short_free : (b : ℕ) → 1 ≤ b → b ≤ 2 ^ 64 → IsPrefixFree (Below b) (short b)
short_free b some small = record {
  one = λ r s lr ls h.
      elim (cases_lt b 2) [
        | inl one ↦ omega (arith, lr, ls, one)
        | inr two ↦ shorts_meet b (ceil_log2 b - 1) r s (wide b two small) lr ls h
      ];
}

-- a short code has one of two lengths
pub length_short : (b r : ℕ) → (ceil_log2 b - 1 ≤ length (short b r)) × (length (short b r) ≤ ceil_log2 b)
length_short b r =
    elim (cases_lt r (shorter b)) [
      | inl lt ↦ (
        let e : length (short b r) ≡ ceil_log2 b - 1 = ap length (short_low b r lt) ∙ length_digits _ r in omega (arith, e),
        let e : length (short b r) ≡ ceil_log2 b - 1 = ap length (short_low b r lt) ∙ length_digits _ r in omega (arith, e),
      )
      | inr ge ↦ (
        let e : length (short b r) ≡ ceil_log2 b = ap length (short_high b r ge) ∙ length_digits _ _ in omega (arith, e),
        let e : length (short b r) ≡ ceil_log2 b = ap length (short_high b r ge) ∙ length_digits _ _ in omega (arith, e),
      )
    ]

-- ---- golomb

-- the code of a value that is one more than q times b and r
pub golomb_is : (b x q r : ℕ) → 1 ≤ b → x ≡ q * b + r + 1 → r < b → golomb b x ≡ unary (1 + q) ++ short b r
unfolding golomb
golomb_is b x q r some is below =
    let e : x - 1 ≡ q * b + r = omega (arith, is) in
    let d : (x - 1) / b ≡ q = ap (λ n. n / b) e ∙ div-mul-add q b r below in
    let m : (x - 1) % b ≡ r = ap (λ n. n % b) e ∙ mod-mul-add q b r below in
    ap (λ n. unary (1 + n) ++ short b ((x - 1) % b)) d ∙ ap (λ n. unary (1 + q) ++ short b n) m

pub golomb_free : (b limit : ℕ) → 1 ≤ b → b ≤ 2 ^ 64 → IsPrefixFree (UpTo limit) (golomb b)
unfolding golomb
golomb_free b limit some small = record {
  one = λ x y tx ty h.
      let met : ((x - 1) / b ≡ (y - 1) / b) × Begins (short b ((x - 1) % b)) (short b ((y - 1) % b)) = unaries_meet _ _ _ _ h in
      let rest : (x - 1) % b ≡ (y - 1) % b = (short_free b some small).one _ _ (mod_under (x - 1) b some) (mod_under (y - 1) b some) met.1 in
      let ex : b * ((x - 1) / b) + (x - 1) % b ≡ x - 1 = div-add-mod (x - 1) b in
      let ey : b * ((y - 1) / b) + (y - 1) % b ≡ y - 1 = div-add-mod (y - 1) b in
      let same : x - 1 ≡ y - 1 = sym ex ∙ ap (λ q. b * q + (x - 1) % b) met.0 ∙ ap (λ r. b * ((y - 1) / b) + r) rest ∙ ey in
      omega (arith, same, tx.0, ty.0);
}
  where
    mod_under : (n b : ℕ) → 1 ≤ b → n % b < b
    mod_under n b some = omega arith

pub length_golomb : (b x : ℕ) → length (golomb b x) ≡ 1 + (x - 1) / b + length (short b ((x - 1) % b))
unfolding golomb
length_golomb b x = rw (length-append, length_unary_after) refl
