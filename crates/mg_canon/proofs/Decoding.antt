-- The steps of the decoder by lengths.
use Rattle.std.proofs.Common.{◌≡◌, ℕ, zero, suc, ◌+◌, ◌-◌, ◌*◌, ◌/◌, ◌%◌, ◌^◌, ◌<◌, ◌≤◌, Bool, true, false, cond, List, [], ◌∷◌, ◌++◌, length, refl, sym, ap, ◌∙◌, subst}
use Rattle.std.proofs.Common.{arith, take, get_or, ◌⊎◌, inl, inr, ⊎_elim, add-one}
use Rattle.std.proofs.lemmas.Grind.{common_steps}
use Rattle.std.proofs.lemmas.List.{get_or_default, get_or_append_left, get_or_push, length_push}
use Rattle.std.proofs.lemmas.Nat.{pow_pos, shl-shr, shl_below, shr-shr}
use Rattle.std.proofs.Math.Nat.{div-mul-le_self, mod-eq-sub-div-mul, mod-lt}
use Rattle.std.proofs.Math.Pow.{shr_mono}
use Rattle.std.proofs.lemmas.Bool.{cases_lt, cases_eq}
use Rattle.std.specs.Prelude.{◌==◌}
use Rattle.mg_defs.specs.Bits.{Bits, Begins, digits, is_odd}
use Rattle.mg_defs.specs.Canon.{first_codeword, count_of, AreGood, codeword_value, codeword}
use Rattle.mg_defs.specs.Answers.{Below, CutShort, IsNone, IsPrefixFree}
use Rattle.mg_defs.proofs.BitLaws.{length_digits}
use Rattle.mg_defs.proofs.CanonSteps.{first-step, first-zero, first-last, nth}
use Rattle.mg_defs.proofs.CanonLaws.{digits-low, good_within, good_full, codeword-many, codewords_free, goes_on_to}
use Rattle.mg_canon.specs.Tables.{count_below, place_of, AreTables, AreBeginnings, IsBeginning, IsStart, IsSymbolAt, found_in}
use Rattle.mg_canon.proofs.Refused.{good_from}
use Rattle.mg_canon.proofs.Placing.{room_for}

-- the first so many bits are the codeword of this symbol
pub record IsCodeword (lengths : List ℕ) (symbol read value : ℕ) : Type 0 where
  pub taken : symbol < length lengths
  pub code : codeword lengths symbol ≡ digits read value

-- they are the front of no codeword, which is so only where there is a single symbol
pub record NoCodeword (lengths : List ℕ) (read value : ℕ) : Type 0 where
  pub alone : length lengths ≡ 1
  pub none : IsNone (Below (length lengths)) (codeword lengths) (digits read value)

pub tables_good : (lengths values firsts offsets symbols : List ℕ) → AreTables lengths values firsts offsets symbols → AreGood lengths
tables_good lengths values firsts offsets symbols t = good_from lengths t.all t.full

first_alone : (l : ℕ) → l ≡ 1 → first_codeword l (l ∷ []) ≡ 0
first_alone l e = let P : ℕ → Type 0 = λ k. first_codeword k (k ∷ []) ≡ 0 in subst P (sym e) refl

alone : (l : ℕ) → l ≡ 1 → digits l 0 ≡ false ∷ []
unfolding digits
alone l e = let P : ℕ → Type 0 = λ k. digits k 0 ≡ false ∷ [] in subst P (sym e) refl

-- a codeword is the digits of its number, also where it is the only one
pub codeword-digits : (lengths : List ℕ) (s : ℕ) → AreGood lengths → s < length lengths → codeword lengths s ≡ digits (get_or lengths s 0) (codeword_value lengths s)
codeword-digits [] s good h = absurd (omega arith)
codeword-digits (l ∷ []) zero good h =
    let v : codeword_value (l ∷ []) 0 ≡ 0 = omega (arith, first_alone l good) in
    sym (ap (λ n. digits l n) v ∙ alone l good)
codeword-digits (l ∷ []) (suc s) good h = absurd (omega arith)
codeword-digits (l ∷ m ∷ lengths) s good h = refl

-- so many bits were read, which are this number, and no codeword stands among them but all of them
pub record Walk (lengths : List ℕ) (read value : ℕ) : Type 0 where
  pub short : read ≤ 48
  pub start : read ≡ 0 → value ≡ 0
  pub many : 2 ≤ length lengths → value < first_codeword read lengths + count_of read lengths
  pub one : length lengths ≡ 1 → (read ≤ 1) × (value ≤ read)

pub walk_start : (lengths : List ℕ) → AreGood lengths → Walk lengths 0 0
walk_start lengths good = record {
  short = omega arith;
  start = λ e. refl;
  many = λ h. omega (arith, first-zero lengths (good_within lengths good h) (good_full lengths good h));
  one = λ e. (omega arith, omega arith);
}

first_one : (lengths : List ℕ) → AreGood lengths → length lengths ≡ 1 → first_codeword 1 lengths ≡ 0
first_one [] good e = absurd (omega arith)
first_one (l ∷ []) good e = let P : ℕ → Type 0 = λ k. first_codeword 1 (k ∷ []) ≡ 0 in subst P (sym good) refl
first_one (l ∷ m ∷ lengths) good e = absurd (omega arith)

first_none : (lengths : List ℕ) → AreGood lengths → length lengths ≡ 1 → first_codeword 0 lengths ≡ 0
first_none [] good e = absurd (omega arith)
first_none (l ∷ []) good e = let P : ℕ → Type 0 = λ k. first_codeword 0 (k ∷ []) ≡ 0 in subst P (sym good) refl
first_none (l ∷ m ∷ lengths) good e = absurd (omega arith)

first_ten : (lengths : List ℕ) → AreGood lengths → length lengths ≡ 1 → first_codeword 10 lengths ≡ 0
first_ten [] good e = absurd (omega arith)
first_ten (l ∷ []) good e = let P : ℕ → Type 0 = λ k. first_codeword 10 (k ∷ []) ≡ 0 in subst P (sym good) refl
first_ten (l ∷ m ∷ lengths) good e = absurd (omega arith)

count_one : (lengths : List ℕ) → AreGood lengths → length lengths ≡ 1 → count_of 1 lengths ≡ 1
count_one [] good e = absurd (omega arith)
count_one (l ∷ []) good e = let P : ℕ → Type 0 = λ k. count_of 1 (k ∷ []) ≡ 1 in subst P (sym good) refl
count_one (l ∷ m ∷ lengths) good e = absurd (omega arith)

below_one : (lengths : List ℕ) → AreGood lengths → length lengths ≡ 1 → count_below 1 lengths ≡ 0
below_one [] good e = absurd (omega arith)
below_one (l ∷ []) good e = let P : ℕ → Type 0 = λ k. count_below 1 (k ∷ []) ≡ 0 in subst P (sym good) refl
below_one (l ∷ m ∷ lengths) good e = absurd (omega arith)

one_codeword : (lengths : List ℕ) → AreGood lengths → length lengths ≡ 1 → (s : ℕ) → codeword lengths s ≡ false ∷ []
one_codeword [] good e s = absurd (omega arith)
one_codeword (l ∷ []) good e s = refl
one_codeword (l ∷ m ∷ lengths) good e s = absurd (omega arith)

no_digits : (v : ℕ) (c : Bits) → Begins (digits 0 v) c
unfolding digits
no_digits v c = refl

one_bit : digits 1 1 ≡ true ∷ []
unfolding digits
one_bit = refl

no_zero : Begins (false ∷ []) (true ∷ []) → ⊥
no_zero h = absurd cc

no_one : Begins (true ∷ []) (false ∷ []) → ⊥
no_one h = absurd cc

bit_small : (b : Bool) → cond b 1 0 ≤ 1
bit_small true = omega arith
bit_small false = omega arith

pub digits-more : (l v : ℕ) (b : Bool) → digits (suc l) (2 * v + cond b 1 0) ≡ digits l v ++ b ∷ []
digits-more l v true =
    let q : (2 * v + 1) / 2 ≡ v = omega arith in
    let r : (2 * v + 1) % 2 ≡ 1 = omega arith in
    digits-low l (2 * v + 1) ∙ ap (λ n. digits l n ++ ((2 * v + 1) % 2 == 1) ∷ []) q ∙ ap (λ n. digits l v ++ (n == 1) ∷ []) r
digits-more l v false =
    let q : (2 * v + 0) / 2 ≡ v = omega arith in
    let r : (2 * v + 0) % 2 ≡ 0 = omega arith in
    digits-low l (2 * v + 0) ∙ ap (λ n. digits l n ++ ((2 * v + 0) % 2 == 1) ∷ []) q ∙ ap (λ n. digits l v ++ (n == 1) ∷ []) r

module _ (lengths : List ℕ) (good : AreGood lengths) (some : 0 < length lengths) (read value : ℕ) (w : Walk lengths read value) where
  -- another bit is read: none was yet, or the number lies below the codewords of its length
  module _ (unread : (read ≡ 0) ⊎ (value < first_codeword read lengths)) where
    below_first : 2 ≤ length lengths → value < first_codeword read lengths
    below_first h = ⊎_elim
        (λ e.
        let z = first-zero lengths (good_within lengths good h) (good_full lengths good h) in
        let f = ap (λ n. first_codeword n lengths) e in
        omega (arith, w.start e))
        (λ lt. lt)
        unread

    none_read : length lengths ≡ 1 → read ≡ 0
    none_read e = ⊎_elim (λ z. z)
        (λ lt. ⊎_elim
        (λ z. z)
        (λ other. absurd
        (let one : read ≡ 1 = omega (arith, w.one e) in omega (arith, ap (λ n. first_codeword n lengths) one, first_one lengths good e)))
        (cases_eq read 0))
        unread

    pub goes_on : read < 48
    goes_on = ⊎_elim
        (λ h. ⊎_elim (λ lt. lt) (λ le. absurd
        (let e : read ≡ 48 = omega (arith, w.short) in
        omega (arith, below_first h, ap (λ n. first_codeword n lengths) e, first-last lengths (good_within lengths good h))))
        (cases_lt read 48))
        (λ few. let e = none_read (omega arith) in omega arith)
        (cases_lt 1 (length lengths))

    pub stays_small : (most : ℕ) → first_codeword read lengths ≤ most → value ≤ most
    stays_small most h = ⊎_elim (λ e. omega (arith, w.start e)) (λ lt. omega arith) unread

    pub cut_short : CutShort (Below (length lengths)) (codeword lengths) (digits read value)
    cut_short = ⊎_elim
        (λ h.
        let r = goes_on_to lengths (good_within lengths good h) (good_full lengths good h) (48 - read) read value (omega (arith, w.short)) (below_first h) in
        let same = codeword-many lengths r.0 h in
        record {
          value = r.0;
          taken = r.1;
          short = omega (arith, length_digits read value, ap length same, length_digits (get_or lengths r.0 0) (codeword_value lengths r.0), r.2);
          agrees = subst (λ c. Begins (digits read value) c) (sym same) r.3;
        })
        (λ few.
        let e : length lengths ≡ 1 = omega arith in
        let none = none_read e in
        record {
          value = 0;
          taken = some;
          short = omega (arith, length_digits read value, ap length (one_codeword lengths good e 0));
          agrees = let P : ℕ → Type 0 = λ n. Begins (digits n value) (codeword lengths 0) in subst P (sym none) (no_digits value (codeword lengths 0));
        })
        (cases_lt 1 (length lengths))

    pub walk_more : (b : Bool) → Walk lengths (read + 1) (2 * value + cond b 1 0)
    walk_more b = record {
      short = omega (arith, goes_on);
      start = λ e. absurd (omega arith);
      many = λ h.
          let step = first-step read lengths goes_on (good_full lengths good h) in
          let one = add-one read in
          subst (λ n. 2 * value + cond b 1 0 < first_codeword n lengths + count_of n lengths) (sym one) (omega (arith, below_first h, bit_small b));
      one = λ e. let z = none_read e in let v = w.start z in (omega arith, omega (arith, bit_small b));
    }

  -- a codeword was read: its number is among those of its length
  module _ (some_read : 1 ≤ read) (stop : first_codeword read lengths ≤ value) where
    -- the place of its symbol, or one past the only symbol
    pub in_range : count_below read lengths + (value - first_codeword read lengths) < length lengths → value < first_codeword read lengths + count_of read lengths
    in_range h = ⊎_elim
        (λ many. w.many many)
        (λ few.
        let e : length lengths ≡ 1 = omega arith in
        let one : read ≡ 1 = omega (arith, w.one e) in
        let f = ap (λ n. first_codeword n lengths) one ∙ first_one lengths good e in
        let c = ap (λ n. count_of n lengths) one ∙ count_one lengths good e in
        let b = ap (λ n. count_below n lengths) one ∙ below_one lengths good e in
        omega arith)
        (cases_lt 1 (length lengths))

    pub out_of_range : length lengths ≤ count_below read lengths + (value - first_codeword read lengths) → (length lengths ≡ 1) × (read ≡ 1) × (value ≡ 1)
    out_of_range h = ⊎_elim
        (λ many. absurd (omega (arith, w.many many, room_for read lengths)))
        (λ few.
        let e : length lengths ≡ 1 = omega arith in
        let one : read ≡ 1 = omega (arith, w.one e) in
        let f = ap (λ n. first_codeword n lengths) one ∙ first_one lengths good e in
        let b = ap (λ n. count_below n lengths) one ∙ below_one lengths good e in
        let v : value ≤ read = (w.one e).1 in
        (e, one, omega arith))
        (cases_lt 1 (length lengths))

    pub found : count_below read lengths + (value - first_codeword read lengths) < length lengths →
        (s : ℕ) × (s < length lengths) × (place_of lengths s ≡ count_below read lengths + (value - first_codeword read lengths)) × (codeword lengths s ≡ digits read value)
    found h =
        let below = in_range h in
        let n = nth lengths read (value - first_codeword read lengths) (omega arith) in
        let is_length : get_or lengths n.0 0 ≡ read = n.2 in
        let rank : count_of read (take n.0 lengths) ≡ value - first_codeword read lengths = n.3 in
        let place : place_of lengths n.0 ≡ count_below read lengths + (value - first_codeword read lengths) =
        ap (λ l. count_below l lengths + count_of l (take n.0 lengths)) is_length ∙ ap (λ k. count_below read lengths + k) rank in
        let number : codeword_value lengths n.0 ≡ value = ap (λ l. first_codeword l lengths + count_of l (take n.0 lengths)) is_length ∙ (let r = rank in omega arith) in (
          n.0,
          n.1,
          place,
          codeword-digits lengths n.0 good n.1 ∙ ap (λ l. digits l (codeword_value lengths n.0)) is_length ∙ ap (λ v. digits read v) number,
        )

    pub none_found : length lengths ≤ count_below read lengths + (value - first_codeword read lengths) → IsNone (Below (length lengths)) (codeword lengths) (digits read value)
    none_found h =
        let out = out_of_range h in
        let bits : digits read value ≡ true ∷ [] = ap (λ l. digits l value) out.1 ∙ ap (λ v. digits 1 v) out.2 ∙ one_bit in
        subst (λ b. IsNone (Below (length lengths)) (codeword lengths) b) (sym bits) (record {
          begins = λ x taken begins. no_zero (subst (λ c. Begins c (true ∷ [])) (one_codeword lengths good out.0 x) begins);
          cut = λ x taken begins. no_one (subst (λ c. Begins (true ∷ []) c) (one_codeword lengths good out.0 x) begins);
        })

-- the way begins behind no bits, or behind ten below all codewords of ten bits
pub walk_from : (lengths : List ℕ) (read value : ℕ) → AreGood lengths → read ≤ 48 → (read ≡ 0) ⊎ (1 ≤ read) → (read ≡ 0 → value ≡ 0) →
    (1 ≤ read → value < first_codeword read lengths) → (1 ≤ read → 0 < first_codeword 10 lengths) → Walk lengths read value
walk_from lengths read value good short from none below ten = ⊎_elim
    (λ e. subst (λ r. Walk lengths r value) (sym e) (subst (λ v. Walk lengths 0 v) (sym (none e)) (walk_start lengths good)))
    (λ some.
    let lt = below some in
    let above = ten some in
    record {
      short = short;
      start = λ z. none z;
      many = λ h. omega (arith, lt);
      one = λ h. absurd (omega (arith, above, first_ten lengths good h));
    })
    from

-- another bit is to be read behind these
pub record GoesOn (lengths : List ℕ) (read value : ℕ) : Type 0 where
  pub on : read < 48
  pub more : (bit : Bool) → Walk lengths (read + 1) (2 * value + cond bit 1 0)
  pub cut : CutShort (Below (length lengths)) (codeword lengths) (digits read value)
  pub free : IsPrefixFree (Below (length lengths)) (codeword lengths)

-- the same by the tables
module _ {lengths values firsts offsets symbols : List ℕ} {read value : ℕ} (t : AreTables lengths values firsts offsets symbols) (some : 0 < length lengths)
    (w : Walk lengths read value) where
  good : AreGood lengths
  good = tables_good lengths values firsts offsets symbols t

  pub by_tables : (read ≡ 0) ⊎ (value < get_or firsts read 0) → GoesOn lengths read value
  by_tables more =
      let first_at = t.first_numbers.at read w.short in
      let unread : (read ≡ 0) ⊎ (value < first_codeword read lengths) = ⊎_elim (λ e. inl e) (λ lt. inr (omega (arith, first_at))) more in
      record {
        on = goes_on lengths good some read value w unread;
        more = walk_more lengths good some read value w unread;
        cut = cut_short lengths good some read value w unread;
        free = codewords_free lengths good;
      }

  module _ (some_read : 1 ≤ read) (stop : get_or firsts read 0 ≤ value) where
    stopped : first_codeword read lengths ≤ value
    stopped = omega (arith, t.first_numbers.at read w.short)

    index_is : get_or offsets read 0 + (value - get_or firsts read 0) ≡ count_below read lengths + (value - first_codeword read lengths)
    index_is = omega (arith, t.first_numbers.at read w.short, t.first_places.at read w.short)

    -- the codeword is that of the symbol at its place among the sorted ones
    pub ends_with : (x place : ℕ) → place ≡ get_or offsets read 0 + (value - get_or firsts read 0) → place < length lengths →
        IsSymbolAt lengths place x → IsCodeword lengths x read value
    ends_with x place at within is =
        let f = found lengths good some read value w some_read stopped (omega (arith, index_is, at)) in
        let symbol : f.0 ≡ x = sym (is f.0 f.1 (f.2 ∙ sym index_is ∙ sym at)) in
        subst (λ s. IsCodeword lengths s read value) symbol (record { taken = f.1; code = f.3 })

    -- or that place is behind them
    pub ends_nowhere : length lengths ≤ get_or offsets read 0 + (value - get_or firsts read 0) → NoCodeword lengths read value
    ends_nowhere past =
        let out : length lengths ≤ count_below read lengths + (value - first_codeword read lengths) = omega (arith, index_is) in
        record {
          alone = (out_of_range lengths good some read value w some_read stopped out).0;
          none = none_found lengths good some read value w some_read stopped out;
        }

odd_or_not : (n : ℕ) → n % 2 ≡ cond (is_odd n) 1 0
odd_or_not n = grind (arith, common_steps)

-- a bit more of 57 bits
pub next_value : (next read value : ℕ) → read < 57 → value ≡ next / 2 ^ (57 - read) → 2 * value + cond (is_odd (next / 2 ^ (56 - read))) 1 0 ≡ next / 2 ^ (57 - (read + 1))
next_value next read value short is =
    let e : 56 - read + 1 ≡ 57 - read = omega arith in
    let f : 57 - (read + 1) ≡ 56 - read = omega arith in
    let half : next / 2 ^ (56 - read) / 2 ≡ value = shr-shr next (56 - read) 1 ∙ ap (λ k. next / 2 ^ k) e ∙ sym is in
    let whole : 2 * value + cond (is_odd (next / 2 ^ (56 - read))) 1 0 ≡ next / 2 ^ (56 - read) = omega (arith, odd_or_not (next / 2 ^ (56 - read)), half) in
    whole ∙ ap (λ k. next / 2 ^ k) (sym f)

-- the next of 57 bits is read, where the first ones are the front of longer codewords alone
pub walk_on : {lengths values firsts offsets symbols : List ℕ} {read : ℕ} (next : ℕ) → AreTables lengths values firsts offsets symbols → 0 < length lengths →
    Walk lengths read (next / 2 ^ (57 - read)) → (read ≡ 0) ⊎ (next / 2 ^ (57 - read) < get_or firsts read 0) → (read < 48) × Walk lengths (read + 1) (next / 2 ^ (57 - (read + 1)))
walk_on {lengths} {read = read} next t some w more =
    let goes = by_tables t some w more in
    (goes.on, subst (λ v. Walk lengths (read + 1) v) (next_value next read (next / 2 ^ (57 - read)) (omega (arith, goes.on)) refl) (goes.more (is_odd (next / 2 ^ (56 - read)))))

-- 57 bits begin with what their first ones begin with
pub of_front : (next width size : ℕ) → width ≤ 57 → size ≤ width → next / 2 ^ (57 - width) / 2 ^ (width - size) ≡ next / 2 ^ (57 - size)
of_front next width size few short =
    let e : 57 - width + (width - size) ≡ 57 - size = omega arith in
    shr-shr next (57 - width) (width - size) ∙ ap (λ k. next / 2 ^ k) e

-- the same of bits that are followed by none
pub of_front_alone : (front width size : ℕ) → width ≤ 57 → size ≤ width → front * 2 ^ (57 - width) / 2 ^ (57 - size) ≡ front / 2 ^ (width - size)
of_front_alone front width size few short =
    sym (of_front (front * 2 ^ (57 - width)) width size few short) ∙ ap (λ n. n / 2 ^ (width - size)) (shl-shr front (57 - width))

-- they are no more than 57 bits
pub front_below : (front width : ℕ) → width ≤ 57 → front < 2 ^ width → front * 2 ^ (57 - width) < 2 ^ 57
front_below front width few below =
    let e : width + (57 - width) ≡ 57 = omega arith in
    subst (λ k. front * 2 ^ (57 - width) < 2 ^ k) e (shl_below front width (57 - width) below)

pub start_value : (next : ℕ) → next < 2 ^ 57 → 0 ≡ next / 2 ^ (57 - 0)
start_value next small = omega arith

-- the way begins where it may
pub walk_begins : {lengths values firsts offsets symbols : List ℕ} {read : ℕ} (next : ℕ) → AreTables lengths values firsts offsets symbols → 0 < length lengths → next < 2 ^ 57 →
    IsStart lengths next read → Walk lengths read (next / 2 ^ (57 - read))
walk_begins {lengths} {values} {firsts} {offsets} {symbols} {read} next t some small start =
    let good : AreGood lengths = tables_good lengths values firsts offsets symbols t in
    let last_at = t.first_numbers.at (read - 1) (omega (arith, start.short)) in
    ⊎_elim
    (λ more.
    let below = start.longer more in
    let short : read - 1 ≤ 48 = omega (arith, start.short) in
    let again : read - 1 + 1 ≡ read = omega arith in
    let before : Walk lengths (read - 1) (next / 2 ^ (57 - (read - 1))) =
    walk_from lengths (read - 1) (next / 2 ^ (57 - (read - 1))) good short (inr (omega arith)) (λ e. absurd (omega arith)) (λ e. below) (λ e. start.ten more) in
    subst (λ r. Walk lengths r (next / 2 ^ (57 - r))) again (walk_on next t some before (inr (omega (arith, last_at, below)))).1)
    (λ few.
    let first : 0 + 1 ≡ read = omega (arith, start.some) in
    let none : Walk lengths 0 (next / 2 ^ (57 - 0)) = subst (λ v. Walk lengths 0 v) (start_value next small) (walk_start lengths good) in
    subst (λ r. Walk lengths r (next / 2 ^ (57 - r))) first (walk_on next t some none (inl refl)).1)
    (cases_lt 1 read)

-- with one bit it may always begin
pub start_one : (lengths : List ℕ) (most : ℕ) → IsStart lengths most 1
start_one lengths most = record { some = omega arith; short = omega arith; longer = λ e. absurd (omega arith); ten = λ e. absurd (omega arith) }

-- and with one more than so many, below their first codeword
pub start_more : (lengths : List ℕ) (most read : ℕ) → read < 48 → most / 2 ^ (57 - read) < first_codeword read lengths → 0 < first_codeword 10 lengths → IsStart lengths most (read + 1)
start_more lengths most read short below ten =
    let same : read ≡ read + 1 - 1 = omega arith in
    record {
      some = omega arith;
      short = omega arith;
      longer = λ e. subst (λ r. most / 2 ^ (57 - r) < first_codeword r lengths) same below;
      ten = λ e. ten;
    }

-- what holds of a number holds of the smaller ones
pub start_within : {lengths : List ℕ} {most read : ℕ} (next : ℕ) → IsStart lengths most read → next ≤ most → IsStart lengths next read
start_within {read = read} next start le = record {
  some = start.some;
  short = start.short;
  longer = λ e. omega (arith, start.longer e, shr_mono (57 - (read - 1)) le);
  ten = start.ten;
}

-- numbers of the same first bits are no more than the last of them
pub last_of_front : (next k : ℕ) → next ≤ next / 2 ^ k * 2 ^ k + (2 ^ k - 1)
last_of_front next k = omega (arith, mod-eq-sub-div-mul next (2 ^ k), div-mul-le_self next (2 ^ k), mod-lt next {m = 2 ^ k} (pow_pos k))

-- an entry that was read tells what the bits of its place begin with
pub entry_is : (lengths : List ℕ) (width : ℕ) (entries : List ℕ) (i entry : ℕ) → AreBeginnings lengths width entries → i < length entries → entry ≡ get_or entries i entry →
    IsBeginning lengths width i (found_in entry)
entry_is lengths width entries i entry told h e = subst (λ n. IsBeginning lengths width i (found_in n)) (sym (e ∙ get_or_default entries i entry 0 h)) (told i h)

-- an entry more
pub entry_more : (lengths : List ℕ) (width : ℕ) (entries : List ℕ) (entry : ℕ) → AreBeginnings lengths width entries → IsBeginning lengths width (length entries) (found_in entry) →
    AreBeginnings lengths width (entries ++ entry ∷ [])
entry_more lengths width entries entry told begins = λ i h. ⊎_elim
    (λ lt. subst (λ n. IsBeginning lengths width i (found_in n)) (sym (get_or_append_left entries (entry ∷ []) 0 i lt)) (told i lt))
    (λ le.
    let e : i ≡ length entries = omega (arith, length_push entries entry, h) in
    subst (λ k. IsBeginning lengths width k (found_in (get_or (entries ++ entry ∷ []) k 0))) (sym e)
    (subst (λ n. IsBeginning lengths width (length entries) (found_in n)) (sym (get_or_push entries entry 0 (length entries) refl)) begins))
    (cases_lt i (length entries))
