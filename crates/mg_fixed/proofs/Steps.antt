-- Steps of the logarithm.
use Rattle.std.proofs.Common.{◌≡◌, ℕ, zero, suc, ◌+◌, ◌-◌, ◌*◌, ◌/◌, ◌^◌, ◌<◌, ◌≤◌, refl, sym, ◌∙◌, ap, subst, arith, add-one, lit≤}
use Rattle.std.proofs.lemmas.Nat.{le-div, pow_pos, pow-add, shl-shr, shl_below, shr_below}
use Rattle.std.proofs.Math.Nat.{div-le_self, two-pow-succ, mul-div-mul_right}
use Rattle.mg_defs.specs.Codes.{log2}
use Rattle.mg_defs.specs.Fixed.{digit, next, digits_of, lg, isqrt}
use Rattle.mg_defs.proofs.FixedLaws.{is_log, one_log, lg-is, lg_rises, one_root, isqrt_root}

-- a digit more
digits_more : (n y so_far : ℕ) → so_far * 2 ^ suc n + digits_of (suc n) y ≡ (so_far * 2 + digit y) * 2 ^ n + digits_of n (next y)
unfolding digits_of
digits_more n y so_far = grind (arith, two-pow-succ n)

pub digits_on : (i so_far y d z whole : ℕ) → i < 8 → d ≡ digit y → z ≡ next y → so_far * 2 ^ (8 - i) + digits_of (8 - i) y ≡ whole →
    (so_far * 2 + d) * 2 ^ (8 - (i + 1)) + digits_of (8 - (i + 1)) z ≡ whole
digits_on i so_far y d z whole lt ed ez h =
    let e : 8 - i ≡ suc (8 - (i + 1)) = omega arith in
    rw (ed, ez) (sym (digits_more (8 - (i + 1)) y so_far) ∙ subst (λ k. so_far * 2 ^ k + digits_of k y ≡ whole) e h)

pub few_more : (i n d : ℕ) → n < 2 ^ i → d ≤ 1 → n * 2 + d < 2 ^ (i + 1)
few_more i n d lt le = rw add-one (omega (arith, two-pow-succ i))

pub low_is : (x w : ℕ) → w ≤ 31 → x * 2 ^ (31 - w) ≡ x * 2 ^ 31 / 2 ^ w
low_is x w le =
    let p : 2 ^ 31 ≡ 2 ^ (31 - w) * 2 ^ w = let e : 31 ≡ 31 - w + w = omega arith in ap (λ k. 2 ^ k) e ∙ pow-add 2 (31 - w) w in
    let q : x * 2 ^ 31 ≡ x * 2 ^ (31 - w) * 2 ^ w = ap (λ k. x * k) p ∙ grind arith in
    sym (ap (λ k. k / 2 ^ w) q ∙ shl-shr (x * 2 ^ (31 - w)) w)

pub low_small : (x w : ℕ) → w ≤ 31 → x < 2 * 2 ^ w → x * 2 ^ (31 - w) < 2 ^ 32
low_small x w le high =
    let e : suc w + (31 - w) ≡ 32 = omega arith in
    let P : ℕ → Type 0 = λ k. x * 2 ^ (31 - w) < 2 ^ k in
    subst P e (shl_below x (suc w) (31 - w) (omega (arith, two-pow-succ w)))

pub high_is : (x w : ℕ) → 31 < w → x / 2 ^ (w - 31) ≡ x * 2 ^ 31 / 2 ^ w
high_is x w lt =
    let p : 2 ^ w ≡ 2 ^ (w - 31) * 2 ^ 31 = let e : w ≡ w - 31 + 31 = omega arith in ap (λ k. 2 ^ k) e ∙ pow-add 2 (w - 31) 31 in
    sym (ap (λ k. x * 2 ^ 31 / k) p ∙ mul-div-mul_right {m = 2 ^ 31} x (2 ^ (w - 31)) (pow_pos 31))

pub high_small : (x w : ℕ) → 31 < w → x < 2 * 2 ^ w → x / 2 ^ (w - 31) < 2 ^ 32
high_small x w lt high =
    let e : suc w ≡ 32 + (w - 31) = omega arith in
    let P : ℕ → Type 0 = λ k. x < 2 ^ k in
    shr_below x 32 (w - 31) (subst P e (omega (arith, two-pow-succ w)))

pub lg_from : (x w i digits y whole : ℕ) → 1 ≤ x → x < 2 ^ 64 → 2 ^ w ≤ x → x < 2 * 2 ^ w → 8 ≤ i → digits * 2 ^ (8 - i) + digits_of (8 - i) y ≡ whole →
    whole ≡ digits_of 8 (x * 2 ^ 31 / 2 ^ w) → 256 * w + digits ≡ lg x
unfolding digits_of
lg_from x w i digits y whole some fits low high le h e =
    let z : 8 - i ≡ zero = omega arith in
    let now : digits * 2 ^ zero + digits_of zero y ≡ whole = subst (λ k. digits * 2 ^ k + digits_of k y ≡ whole) z h in
    let same : log2 x ≡ w = one_log x (log2 x) w (is_log x some fits) (record { low = low; high = omega (arith, two-pow-succ w) }) in
    omega (arith, now, e, lg-is x w same)

pub root_from : (s r : ℕ) → s < 2 ^ 64 → r * r ≤ s → s < (r + 1) * (r + 1) → r ≡ isqrt s
root_from s r fits low high = one_root s r (isqrt s) (record { within = low; next = high }) (isqrt_root s fits)

-- a term that all documents have has the least weight
lg_least : lg 131072 ≡ 4352
unfolding lg digits_of digit next
lg_least = refl

pub weight_low : (docs all : ℕ) → 1 ≤ docs → docs ≤ all → all < 2 ^ 32 → 4352 ≤ lg (65536 * (all + docs) / docs)
weight_low docs all some part fits =
    let q : ℕ = 65536 * (all + docs) / docs in
    let low : 131072 ≤ 65536 * (all + docs) / docs = le-div 131072 (65536 * (all + docs)) docs some (omega (arith, part)) in
    let high : 65536 * (all + docs) / docs < 2 ^ 64 = omega (arith, div-le_self (65536 * (all + docs)) docs, part, fits) in
    omega (arith, lg_rises 131072 (65536 * (all + docs) / docs) (lit≤ tt) low high, lg_least)
