-- Short codes that are read bit by bit.
use Rattle.std.proofs.Common.{◌≡◌, ◌+◌, ◌*◌, ◌/◌, ◌%◌, ◌^◌, ◌≤◌, ◌<◌, ◌-◌, [], ◌∷◌, ◌++◌, ◌∙◌, if◌then◌else◌}
use Rattle.std.proofs.Common.{arith, suc, zero, ℕ, Ok, Bool, true, false, length, take, refl, sym, ap, subst, nat_eq, inl, inr, append-nil, add-zero, one-mul}
use Rattle.std.specs.declared.option.Option.{Option}
use Rattle.std.proofs.lemmas.Bool.{cases_lt, cond-true, cond-false, lt-ltb, le-ltb, eq-eqb, eqb-true}
use Rattle.std.proofs.Math.Pow.{pow_mono}
use Rattle.std.proofs.lemmas.Nat.{pow_pos, pow-add, shr_below}
use Rattle.std.proofs.Math.Nat.{two-pow-succ, div-mul-le_self, mod-eq_of_lt, mul-le-mul_right}
use Rattle.mg_defs.specs.Bits.{Begins, digits}
use Rattle.mg_defs.specs.Codes.{short, shorter, ceil_log2}
use Rattle.mg_defs.specs.Answers.{Below, CutShort, IsNone, IsPrefixFree}
use Rattle.mg_defs.proofs.BitLaws.{length_digits, digits_append, take_digits}
use Rattle.mg_defs.proofs.FrontLaws.{begins_append, begins_self, begins_whole}
use Rattle.mg_defs.proofs.CodeLaws.{IsCeil, is_ceil, one_ceil, short_low, short_high, length_short, short_free, small_digits}
use Rattle.mg_dev.specs.Files.{Files}
use Rattle.mg_bits.specs.Feed.{Device, Feeding}
use Rattle.mg_bits.specs.Reading.{Reading}
use Rattle.mg_bits.specs.NextBits.{ReadsNext}
use Rattle.mg_bits.specs.Reader.{AnswersBit}
use Rattle.mg_bits.proofs.CallerLemmas.{HasRead, read_a_bit}
use Rattle.mg_codes.specs.Remainders.{IsWholeAt, IsOpenAt, least_from, least_of}

-- the greatest length of a short code, and how many have one bit less
pub record IsShort (b size few : ℕ) : Type 0 where
  pub size_is : ceil_log2 b ≡ size
  pub few_is : shorter b ≡ few
  pub sum : b + few ≡ 2 ^ size
  pub low : 1 ≤ size → 2 ^ (size - 1) < b

pub is_short : (b : ℕ) → 1 ≤ b → b ≤ 2 ^ 64 → IsShort b (ceil_log2 b) (shorter b)
unfolding shorter
is_short b some small =
    let is : IsCeil b (ceil_log2 b) = is_ceil b some small in
    record { size_is = refl; few_is = refl; sum = omega (arith, is.high); low = is.low }

-- bits of a short code that were read
pub record Walked (size few done high : ℕ) : Type 0 where
  pub within : done ≤ size
  pub below : high < 2 ^ done
  pub last : done ≡ size → 2 * few ≤ high

pub walked_start : (b size few : ℕ) → 1 ≤ b → IsShort b size few → Walked size few 0 0
walked_start b size few some is = record {
  within = omega arith;
  below = omega arith;
  last = λ none. (let e : 2 ^ size ≡ 1 = ap (λ n. 2 ^ n) (sym none) in omega (arith, is.sum, e));
}

-- ---- what is known of numbers

digits_first : (d e n h v : ℕ) → d + e ≡ n → h < 2 ^ d → v < 2 ^ n → Begins (digits d h) (digits n v) → h ≡ v / 2 ^ e
digits_first d e n h v is hb vb begins =
    let t : take d (digits n v ++ []) ≡ digits d (v / 2 ^ e) = take_digits d n e v [] (sym is) in
    let begun : take (length (digits d h)) (digits n v) ≡ digits d h = begins in
    let begun : take d (digits n v) ≡ digits d h = rw length_digits at begun in
    let same : digits d (v / 2 ^ e) ≡ digits d h = sym t ∙ ap (take d) (append-nil (digits n v)) ∙ begun in
    sym (small_digits d (v / 2 ^ e) h (quotient d e n v is vb) hb same)
  where
    quotient : (d e n v : ℕ) → d + e ≡ n → v < 2 ^ n → v / 2 ^ e < 2 ^ d
    quotient d e n v is vb = shr_below v d e (rw is vb)

pub low_code : (b size few r : ℕ) → IsShort b size few → r < few → short b r ≡ digits (size - 1) r
low_code b size few r is lt = short_low b r (rw is.few_is lt) ∙ ap (λ n. digits (n - 1) r) is.size_is

pub high_code : (b size few r : ℕ) → IsShort b size few → few ≤ r → short b r ≡ digits size (r + few)
high_code b size few r is le = short_high b r (rw is.few_is le) ∙ ap (λ n. digits n (r + shorter b)) is.size_is ∙ ap (λ n. digits size (r + n)) is.few_is

-- zero-bits behind the bits of a number
zeros_behind : (d e h : ℕ) → Begins (digits d h) (digits (d + e) (h * 2 ^ e))
zeros_behind d e h = rw (ap (digits (d + e)) (sym (add-zero (h * 2 ^ e))) ∙ digits_append d e h 0 (pow_pos e)) (begins_append (digits d h) (digits e 0))

least_low : (few t : ℕ) → t < few → least_from few t ≡ t
least_low few t lt = cond-true _ _ _ (lt-ltb t few lt)

least_high : (few t : ℕ) → few ≤ t → least_from few t ≡ 2 * t - few
least_high few t le = cond-false _ _ _ (le-ltb t few le)

-- the least remainder is the first
least_first : (b j few d e h r : ℕ) → IsShort b (suc j) few → d + e ≡ j → h < 2 ^ d → r < b → Begins (digits d h) (short b r) → least_from few (h * 2 ^ e) ≤ r
least_first b j few d e h r is sum hb rb begins =
    elim (cases_lt r few) [
      | inl low ↦
          let down : suc j - 1 ≡ j = omega arith in
          let begins : Begins (digits d h) (digits j r) = rw (low_code b (suc j) few r is low, down) at begins in
          let few_below : few < 2 ^ j = few_small b j few is in
          let same : h ≡ r / 2 ^ e = digits_first d e j h r sum hb (omega (arith, low)) begins in
          let under : h * 2 ^ e ≤ r = rw same (div-mul-le_self r (2 ^ e)) in
          omega (arith, least_low few (h * 2 ^ e) (omega (arith, low)))
      | inr high ↦
          let begins : Begins (digits d h) (digits (suc j) (r + few)) = rw (high_code b (suc j) few r is high) at begins in
          let same : h ≡ (r + few) / 2 ^ suc e = digits_first d (suc e) (suc j) h (r + few) (omega (arith, sum)) hb (omega (arith, is.sum)) begins in
          let under : h * 2 ^ suc e ≤ r + few = rw same (div-mul-le_self (r + few) (2 ^ suc e)) in
          let twice : h * 2 ^ suc e ≡ 2 * (h * 2 ^ e) = rw (two-pow-succ e) (omega arith) in
          elim (cases_lt (h * 2 ^ e) few) [
            | inl lt ↦ omega (arith, least_low few (h * 2 ^ e) lt, lt, high)
            | inr ge ↦ omega (arith, least_high few (h * 2 ^ e) ge)
          ]
    ]
  where
    few_small : (b j few : ℕ) → IsShort b (suc j) few → few < 2 ^ j
    few_small b j few is = let down : suc j - 1 ≡ j = omega arith in let low : 2 ^ j < b = rw down at (is.low (omega arith)) in omega (arith, is.sum, two-pow-succ j)

-- ---- the bits that were read

least_end : (size few done high : ℕ) → done ≡ size → least_of size few done high ≡ high - few
least_end size few done high e = cond-true _ _ _ (eq-eqb done size e)

least_before : (size few done high : ℕ) → done < size → least_of size few done high ≡ least_from few (high * 2 ^ (size - 1 - done))
least_before size few done high lt = cond-false _ _ _ (not_same (nat_eq done size) refl)
  where
    not_same : (b : Bool) → nat_eq done size ≡ b → nat_eq done size ≡ false
    not_same true e = absurd (omega (arith, eqb-true done size e, lt))
    not_same false e = e

pub least_start : (b size few : ℕ) → 1 ≤ b → IsShort b size few → least_of size few 0 0 ≡ 0
least_start b size few some is =
    elim (cases_lt 0 size) [
      | inl lt ↦ least_before size few 0 0 lt ∙ from_none few (0 * 2 ^ (size - 1 - 0)) (omega arith)
      | inr ge ↦ least_end size few 0 0 (omega (arith, ge)) ∙ (omega arith)
    ]
  where
    from_none : (few t : ℕ) → t ≡ 0 → least_from few t ≡ 0
    from_none few t none =
        elim (cases_lt t few) [
          | inl lt ↦ least_low few t lt ∙ none
          | inr ge ↦ omega (arith, least_high few t ge, none)
        ]

pub whole_code : (b size few done high v : ℕ) → IsShort b size few → Walked size few done high → IsWholeAt size few done high v → short b v ≡ digits done high
whole_code b size few done high v is w (inl whole) =
    let twice : 2 * few ≤ high = w.last whole.0 in
    let sum : v + few ≡ high = omega (arith, whole.1, twice) in
    high_code b size few v is (omega (arith, whole.1, twice)) ∙ ap (digits size) sum ∙ ap (λ n. digits n high) (sym whole.0)
whole_code b size few done high v is w (inr whole) =
    let down : size - 1 ≡ done = omega (arith, whole.0) in
    low_code b size few v is (omega (arith, whole.1, whole.2)) ∙ ap (λ n. digits n v) down ∙ ap (digits done) whole.2

pub whole_least : (size few done high v : ℕ) → IsWholeAt size few done high v → least_of size few done high ≡ v
whole_least size few done high v (inl whole) = least_end size few done high whole.0 ∙ sym whole.1
whole_least size few done high v (inr whole) =
    let none : size - 1 - done ≡ 0 = omega (arith, whole.0) in
    let t : high * 2 ^ (size - 1 - done) ≡ high = rw none (omega arith) in
    least_before size few done high (omega (arith, whole.0)) ∙ ap (least_from few) t ∙ least_low few high whole.1 ∙ sym whole.2

twice_power : (h e : ℕ) → h * 2 ^ suc e ≡ 2 * (h * 2 ^ e)
twice_power h e = rw (two-pow-succ e) (omega arith)

pub open_cut : (b size few done high bound : ℕ) → IsShort b size few → Walked size few done high → IsOpenAt size few done high →
    least_of size few done high < bound → CutShort (Below bound) (short b) (digits done high)
open_cut b size few done high bound is w opened below =
    let e : ℕ = size - 1 - done in
    let sum : done + e ≡ size - 1 = omega (arith, opened.more) in
    let least : least_of size few done high ≡ least_from few (high * 2 ^ e) = least_before size few done high opened.more in
    elim (cases_lt (high * 2 ^ e) few) [
      | inl lt ↦ cut_low e sum (omega (arith, least, least_low few (high * 2 ^ e) lt, below)) lt
      | inr ge ↦ cut_high e sum (omega (arith, least, least_high few (high * 2 ^ e) ge, below)) ge
    ]
  where
    positive : (e : ℕ) → done + e ≡ size - 1 → high * 2 ^ e < few → 0 < e
    positive zero sum lt = absurd (omega (arith, opened.longer (omega (arith, sum, opened.more)), lt))
    positive (suc e) sum lt = omega arith

    cut_low : (e : ℕ) → done + e ≡ size - 1 → high * 2 ^ e < bound → high * 2 ^ e < few → CutShort (Below bound) (short b) (digits done high)
    cut_low e sum taken lt =
        let code : short b (high * 2 ^ e) ≡ digits (done + e) (high * 2 ^ e) = low_code b size few (high * 2 ^ e) is lt ∙ ap (λ n. digits n (high * 2 ^ e)) (sym sum) in
        record {
          value = high * 2 ^ e;
          taken = taken;
          short = omega (arith, ap length code, length_digits (done + e) (high * 2 ^ e), length_digits done high, positive e sum lt);
          agrees = subst (Begins (digits done high)) (sym code) (zeros_behind done e high);
        }

    cut_high : (e : ℕ) → done + e ≡ size - 1 → 2 * (high * 2 ^ e) - few < bound → few ≤ high * 2 ^ e → CutShort (Below bound) (short b) (digits done high)
    cut_high e sum taken ge =
        let up : done + suc e ≡ size = omega (arith, sum, opened.more) in
        let twice : 2 * (high * 2 ^ e) - few + few ≡ high * 2 ^ suc e = omega (arith, twice_power high e, ge) in
        let code : short b (2 * (high * 2 ^ e) - few) ≡ digits (done + suc e) (high * 2 ^ suc e) =
        high_code b size few (2 * (high * 2 ^ e) - few) is (omega (arith, ge)) ∙ ap (digits size) twice ∙ ap (λ n. digits n (high * 2 ^ suc e)) (sym up) in
        record {
          value = 2 * (high * 2 ^ e) - few;
          taken = taken;
          short = omega (arith, ap length code, length_digits (done + suc e) (high * 2 ^ suc e), length_digits done high);
          agrees = subst (Begins (digits done high)) (sym code) (zeros_behind done (suc e) high);
        }

pub walked_none : (b size few done high bound : ℕ) → 1 ≤ b → b ≤ 2 ^ 64 → IsShort b size few → Walked size few done high →
    bound ≤ least_of size few done high → bound ≤ b → IsNone (Below bound) (short b) (digits done high)
walked_none b size few done high bound some small is w above within =
    elim (cases_lt done size) [
      | inl lt ↦ none_before lt
      | inr ge ↦ none_end (omega (arith, ge, w.within))
    ]
  where
    none_before : done < size → IsNone (Below bound) (short b) (digits done high)
    none_before lt =
        let e : ℕ = size - 1 - done in
        let up : suc (size - 1) ≡ size = omega (arith, lt) in
        let is_up : IsShort b (suc (size - 1)) few = rw up is in
        let least : bound ≤ least_from few (high * 2 ^ e) = omega (arith, least_before size few done high lt, above) in
        let cut : (r : ℕ) → r < bound → Begins (digits done high) (short b r) → ⊥ =
        λ r taken begins. omega (arith, least_first b (size - 1) few done e high r is_up (omega (arith, lt)) w.below (omega (arith, taken, within)) begins, least, taken) in
        record {
          begins = λ r taken begins.
              let long : size - 1 ≤ length (short b r) = (let l = (length_short b r).0 in omega (arith, l, is.size_is)) in
              let same : short b r ≡ digits done high = begins_whole (short b r) (digits done high) begins (omega (arith, length_digits done high, long, lt)) in
              cut r taken (rw same (begins_self (digits done high)));
          cut = cut;
        }

    none_end : done ≡ size → IsNone (Below bound) (short b) (digits done high)
    none_end e =
        let v : ℕ = high - few in
        let twice : 2 * few ≤ high = w.last e in
        let below : high < 2 ^ size = rw e at w.below in
        let vb : high - few < b = omega (arith, below, is.sum, twice) in
        let code : short b (high - few) ≡ digits done high = whole_code b size few done high (high - few) is w (inl (e, refl)) in
        let least : bound ≤ high - few = omega (arith, least_end size few done high e, above) in
        record {
          begins = λ r taken begins. omega (arith, (short_free b some small).one r (high - few) (omega (arith, taken, within)) vb (rw code begins), taken, least);
          cut = λ r taken begins. omega (arith, (short_free b some small).one (high - few) r vb (omega (arith, taken, within)) (rw code begins), taken, least);
        }

pub walked_bit : (size few done high bit : ℕ) → bit ≤ 1 → Walked size few done high → IsOpenAt size few done high → Walked size few (done + 1) (2 * high + bit)
walked_bit size few done high bit one w opened = record {
  within = omega (arith, opened.more);
  below = (let e : done + 1 ≡ suc done = omega arith in rw e (omega (arith, two-pow-succ done, w.below, one)));
  last = λ end. omega (arith, opened.longer end);
}

pub digits_bit : (done high v : ℕ) (b : Bool) → v ≡ 2 * high + (if b then 1 else 0) → digits (done + 1) v ≡ digits done high ++ b ∷ []
unfolding digits
digits_bit done high v true is = ap (digits (done + 1)) (let e : v ≡ high * 2 ^ 1 + 1 = omega arith in e) ∙ digits_append done 1 high 1 (omega arith)
digits_bit done high v false is = ap (digits (done + 1)) (let e : v ≡ high * 2 ^ 1 + 0 = omega arith in e) ∙ digits_append done 1 high 0 (omega arith)

-- a short code has fewer than 64 bits
pub small_size : (b size few : ℕ) → b < 2 ^ 48 → IsShort b size few → size ≤ 48
small_size b size few small is =
    elim (cases_lt size 49) [
      | inl lt ↦ omega (arith, lt)
      | inr ge ↦ absurd (let le : 48 ≤ size - 1 = omega (arith, ge) in let m : 2 ^ 48 ≤ 2 ^ (size - 1) = pow_mono le in omega (arith, m, is.low (omega (arith, ge)), small))
    ]

-- the length that the code computes
pub ceil_of_one : (b : ℕ) → 1 ≤ b → b ≤ 1 → 0 ≡ ceil_log2 b
ceil_of_one b some one = one_ceil b 0 (ceil_log2 b) (record { high = omega (arith, one); low = λ h. absurd (omega arith) }) (is_ceil b some (omega arith))

pub ceil_of_more : (b e : ℕ) → 1 < b → b < 2 ^ 48 → 2 ^ e ≤ b - 1 → b - 1 < 2 * 2 ^ e → 1 + e ≡ ceil_log2 b
ceil_of_more b e more small low high =
    one_ceil b (1 + e) (ceil_log2 b)
    (record {
      high = (let up : 1 + e ≡ suc e = omega arith in rw up (omega (arith, two-pow-succ e, high)));
      low = λ h. (let down : 1 + e - 1 ≡ e = omega arith in rw down (omega (arith, low, more)));
    })
    (is_ceil b (omega (arith, more)) (omega (arith, small)))

pub small_ceil : (b : ℕ) → 1 ≤ b → b < 2 ^ 48 → ceil_log2 b ≤ 48
small_ceil b some small = small_size b (ceil_log2 b) (shorter b) small (is_short b some (omega (arith, small)))

pub power_of_size : (b size : ℕ) → 1 ≤ b → b < 2 ^ 48 → size ≡ ceil_log2 b → (b ≤ 2 ^ size) × (2 ^ size < 2 ^ 48 + b)
power_of_size b size some small is =
    let s : IsShort b (ceil_log2 b) (shorter b) = is_short b some (omega (arith, small)) in
    rw is (omega (arith, s.sum), few_below b (ceil_log2 b) (shorter b) some small s)
  where
    few_below : (b size few : ℕ) → 1 ≤ b → b < 2 ^ 48 → IsShort b size few → 2 ^ size < 2 ^ 48 + b
    few_below b zero few some small s = omega arith
    few_below b (suc k) few some small s = let down : suc k - 1 ≡ k = omega arith in let low : 2 ^ k < b = rw down at (s.low (omega arith)) in omega (arith, two-pow-succ k, low, small)

pub shorter_is : (b size : ℕ) → size ≡ ceil_log2 b → 2 ^ size - b ≡ shorter b
unfolding shorter
shorter_is b size is = ap (λ n. 2 ^ n - b) is

pub one_shifted : (size : ℕ) → size ≤ 48 → 1 * 2 ^ size % 18446744073709551616 ≡ 2 ^ size
one_shifted size le = rw one-mul (mod-eq_of_lt (let m : 2 ^ size ≤ 2 ^ 48 = pow_mono le in omega (arith, m)))

pub shifted_small : (high done more : ℕ) → high < 2 ^ done → done + more < 48 → high * 2 ^ more < 2 ^ 48
shifted_small high done more below sum =
    let p : 2 ^ (done + more) ≡ 2 ^ done * 2 ^ more = pow-add 2 done more in
    let q : 0 < 2 ^ more = pow_pos more in
    let le : high + 1 ≤ 2 ^ done = omega (arith, below) in
    let up : (high + 1) * 2 ^ more ≤ 2 ^ done * 2 ^ more = mul-le-mul_right (2 ^ more) le in
    let le : done + more ≤ 48 = omega (arith, sum) in
    let m : 2 ^ (done + more) ≤ 2 ^ 48 = pow_mono le in
    omega (arith, up, m, p, q)

pub shape : (b size few : ℕ) → 1 ≤ b → b < 2 ^ 48 → size ≡ ceil_log2 b → few ≡ shorter b → IsShort b size few
shape b size few some small size_is few_is = rw (size_is, few_is) (is_short b some (omega (arith, small)))

pub below_free : (b bound : ℕ) → 1 ≤ bound → bound ≤ b → b < 2 ^ 48 → IsPrefixFree (Below bound) (short b)
below_free b bound some within small = record {
  one = λ x y tx ty h. (short_free b (omega (arith, some, within)) (omega (arith, small))).one x y (omega (arith, tx, within)) (omega (arith, ty, within)) h;
}

-- one bit more of a number
pub read_a_digit : {Fed Dev : Type 0} {agrees : Fed → Option Files → Type 0} {feeding : Fed → Feeding} {device : Dev → Device}
    {old mid new : Reading Fed} {d0 d1 d2 : Dev} {bit : Bool} (done high v : ℕ) → 0 < (feeding old.feed).page → v ≡ 2 * high + (if bit then 1 else 0) →
    HasRead agrees feeding device old mid d0 d1 (digits done high) → ReadsNext feeding device agrees mid new d1 d2 1 (Ok bit) (AnswersBit (Ok bit) mid.place) →
    HasRead agrees feeding device old new d0 d2 (digits (done + 1) v)
read_a_digit {bit = bit} done high v some is one two = rw (digits_bit done high v bit is) (read_a_bit some one two)

-- the least remainder is one
pub least_below : (b size few done high : ℕ) → 1 ≤ b → IsShort b size few → Walked size few done high → least_of size few done high < b
least_below b size few done high some is w =
    elim (cases_lt done size) [
      | inl lt ↦
          let e : ℕ = size - 1 - done in
          let half : 2 ^ (size - 1) < b = is.low (omega (arith, lt)) in
          let up : suc (size - 1) ≡ size = omega (arith, lt) in
          let twice : 2 ^ size ≡ 2 * 2 ^ (size - 1) = omega (arith, ap (λ n. 2 ^ n) up, two-pow-succ (size - 1)) in
          let sum : 2 ^ (size - 1) ≡ 2 ^ done * 2 ^ e = ap (λ n. 2 ^ n) (let x : size - 1 ≡ done + (size - 1 - done) = omega (arith, lt) in x) ∙ pow-add 2 done e in
          let t : (high + 1) * 2 ^ e ≤ 2 ^ done * 2 ^ e = (let le : high + 1 ≤ 2 ^ done = omega (arith, w.below) in mul-le-mul_right (2 ^ e) le) in
          let least : least_of size few done high ≡ least_from few (high * 2 ^ e) = least_before size few done high lt in
          elim (cases_lt (high * 2 ^ e) few) [
            | inl low ↦ omega (arith, least, least_low few (high * 2 ^ e) low, low, is.sum, twice, half)
            | inr ge ↦ omega (arith, least, least_high few (high * 2 ^ e) ge, ge, is.sum, twice, sum, t, pow_pos e)
          ]
      | inr ge ↦
          let end : done ≡ size = omega (arith, ge, w.within) in
          let below : high < 2 ^ size = rw end at w.below in
          omega (arith, least_end size few done high end, below, is.sum, w.last end, some)
    ]

pub some_bits : (b size few : ℕ) → 1 ≤ b → IsShort b size few → 0 < few → 1 ≤ size
some_bits b zero few some is more = absurd (omega (arith, is.sum, some, more))
some_bits b (suc k) few some is more = omega arith
