-- Codes that stand first of bits that were looked at.
use Rattle.std.proofs.Common.{arith, suc, ◌≡◌, ◌+◌, ◌*◌, ◌/◌, ◌%◌, ◌^◌, ◌≤◌, ◌<◌, ◌-◌, inl, inr, ℕ, false, List}
use Rattle.std.proofs.Common.{[], ◌∷◌, ◌++◌, length, drop, Option, Some, None, Ok, refl, sym, ◌∙◌, ap, subst, append_assoc, length-append}
use Rattle.std.proofs.lemmas.Bool.{cases_lt}
use Rattle.std.proofs.lemmas.List.{drop-drop}
use Rattle.std.proofs.lemmas.Nat.{pow_pos, shr-shr, pow-add, div_below}
use Rattle.std.proofs.Math.Nat.{two-pow-succ}
use Rattle.std.proofs.Math.Pow.{pow_mono}
use Rattle.mg_dev.specs.Files.{Files}
use Rattle.mg_defs.specs.Answers.{UpTo}
use Rattle.mg_defs.specs.Bits.{Begins, Bits, FromPlace, Shows, bits_of, digits}
use Rattle.mg_defs.specs.Codes.{ceil_log2, gamma, golomb, ones, short, shorter, unary}
use Rattle.mg_defs.specs.Lists.{posting_bits, Follows}
use Rattle.mg_defs.specs.declared.Posting.{Posting}
use Rattle.mg_defs.proofs.BitLaws.{digits_append, length_digits}
use Rattle.mg_defs.proofs.CodeLaws.{IsCeil, is_ceil, one_ceil, gamma_is, golomb_is, length_golomb, length_unary_after, short_high, short_low, unary_after}
use Rattle.mg_defs.proofs.FixedLaws.{IsLog}
use Rattle.mg_defs.proofs.FrontLaws.{begins_first, begins_second}
use Rattle.mg_defs.proofs.StandLists.{length_posting}
use Rattle.mg_bits.specs.CodeAnswers.{AnswersCode}
use Rattle.mg_bits.specs.Feed.{Device as Seen, Feeding, HoldsBits, Read}
use Rattle.mg_bits.proofs.CallerLemmas.{holds_inside, read_held, told_nothing}
use Rattle.mg_codes.proofs.CallerLemmas.{less_one, no_bits, one_zero, quotient, unary_digits, with_highest}
use Rattle.mg_post.specs.Ahead.{IsAhead, IsGapCode, Takes}
use Rattle.mg_post.proofs.ReadLaws.{freq_got, gap_got}

-- ---- bits of a number

-- the first bits of a number, and those behind them
split_digits : (a b n : ℕ) → digits (a + b) n ≡ digits a (n / 2 ^ b) ++ digits b (n % 2 ^ b)
split_digits a b n =
    let some : 0 < 2 ^ b = pow_pos b in
    let low : n % 2 ^ b < 2 ^ b = omega (arith, some) in
    let e : n / 2 ^ b * 2 ^ b + n % 2 ^ b ≡ n = omega (arith, some) in
    ap (digits (a + b)) (sym e) ∙ digits_append a b (n / 2 ^ b) (n % 2 ^ b) low

pub takes_first : (code : Bits) (a b count bits : ℕ) → count ≡ a + b → code ≡ digits a (bits / 2 ^ b) → Takes code bits count (bits % 2 ^ b) b
takes_first code a b count bits sum is =
    let some : 0 < 2 ^ b = pow_pos b in
    record {
      whole = ap (λ n. digits n bits) sum ∙ split_digits a b bits ∙ ap (λ l. l ++ digits b (bits % 2 ^ b)) (sym is);
      fewer = omega (arith, sum, ap length is, length_digits a (bits / 2 ^ b));
      below = omega (arith, some);
    }

pub takes_both : (one two : Bits) (bits count rest left last behind : ℕ) → Takes one bits count rest left → Takes two rest left last behind → Takes (one ++ two) bits count last behind
takes_both one two bits count rest left last behind a b = record {
  whole = a.whole ∙ ap (λ l. one ++ l) b.whole ∙ sym (append_assoc one two (digits behind last));
  fewer = omega (arith, a.fewer, b.fewer, length-append one two);
  below = b.below;
}

-- ---- unary

unary_bits : (n : ℕ) → digits (n + 1) ((2 ^ n - 1) * 2) ≡ unary (1 + n)
unary_bits n = unary_digits n ∙ sym (unary_after n)

pub below_count : (e count bits rest : ℕ) → rest ≡ 2 ^ count - 1 - bits → 2 ^ e ≤ rest → e < count
below_count e count bits rest is low =
    elim (cases_lt e count) [
      | inl lt ↦ lt
      | inr ge ↦ absurd (let up : 2 ^ count ≤ 2 ^ e = pow_mono ge in omega (arith, up, low, is, pow_pos e))
    ]

pub unary_takes : (count bits rest e n : ℕ) → bits < 2 ^ count → rest ≡ 2 ^ count - 1 - bits → 2 ^ e ≤ rest → rest < 2 * 2 ^ e → n ≡ count - 1 - e → Takes (unary (1 + n)) bits count (bits % 2 ^ e) e
unary_takes count bits rest e n small is low high at =
    let lt : e < count = below_count e count bits rest is low in
    let total : 1 + (n + e) ≡ count = omega (arith, at, lt) in
    let wide : 2 ^ count ≡ 2 * (2 ^ n * 2 ^ e) = ap (λ k. 2 ^ k) (sym total) ∙ pow-add 2 1 (n + e) ∙ ap (λ x. 2 * x) (pow-add 2 n e) in
    let all : bits + 1 + rest ≡ 2 ^ count = omega (arith, is, small) in
    let sum : bits + 1 + rest ≡ 2 * ((2 ^ n - 1) * 2 ^ e + 2 ^ e) = all ∙ wide ∙ ap (λ x. 2 * x) (sym (less_one (2 ^ n) (2 ^ e) (pow_pos n))) in
    let first : bits / 2 ^ e ≡ (2 ^ n - 1) * 2 = quotient (2 ^ n - 1) (2 ^ e) rest bits low high sum in
    takes_first (unary (1 + n)) (n + 1) e count bits (omega (arith, total)) (sym (unary_bits n) ∙ ap (digits (n + 1)) (sym first))

-- ---- short codes

pub ceil_of_one : (b : ℕ) → 1 ≤ b → b ≤ 1 → 0 ≡ ceil_log2 b
ceil_of_one b some one = one_ceil b 0 (ceil_log2 b) (record { high = omega (arith, one); low = λ h. absurd (omega arith) }) (is_ceil b some (omega arith))

pub ceil_of_more : (b e : ℕ) → 1 < b → b < 2 ^ 48 → 2 ^ e ≤ b - 1 → b - 1 < 2 * 2 ^ e → 1 + e ≡ ceil_log2 b
ceil_of_more b e more small low high =
    one_ceil b (1 + e) (ceil_log2 b)
    (record {
      high = (let up : 1 + e ≡ suc e = omega arith in rw up (omega (arith, two-pow-succ e, high)));
      low = λ h. (let down : 1 + e - 1 ≡ e = omega arith in rw down (omega (arith, low, more)));
    })
    (is_ceil b (omega (arith, more)) (omega (arith, small)))

pub exponent_small : (b e : ℕ) → b < 2 ^ 48 → 2 ^ e ≤ b - 1 → e < 48
exponent_small b e small low =
    elim (cases_lt e 48) [
      | inl lt ↦ lt
      | inr ge ↦ absurd (let up : 2 ^ 48 ≤ 2 ^ e = pow_mono ge in omega (arith, up, low, small))
    ]

pub size_holds : (b size : ℕ) → 1 ≤ b → b < 2 ^ 48 → size ≡ ceil_log2 b → b ≤ 2 ^ size
size_holds b size some small is = let c : IsCeil b (ceil_log2 b) = is_ceil b some (omega (arith, small)) in rw is c.high

pub gap_code_is : (b size power : ℕ) → 1 ≤ b → b < 2 ^ 48 → size ≡ ceil_log2 b → power ≡ 2 ^ size → IsGapCode b size (power - b)
unfolding shorter
gap_code_is b size power some small is at = record { some = some; small = small; size_is = is; few_is = ap (λ n. n - b) (at ∙ ap (λ k. 2 ^ k) is) }

size_sum : (b size few : ℕ) → IsGapCode b size few → b + few ≡ 2 ^ size
unfolding shorter
size_sum b size few code =
    let le : b ≤ 2 ^ size = size_holds b size code.some code.small code.size_is in
    let e : few ≡ 2 ^ size - b = code.few_is ∙ ap (λ k. 2 ^ k - b) (sym code.size_is) in
    omega (arith, le, e)

low_size : (b size few : ℕ) → IsGapCode b size few → 1 ≤ size → 2 ^ (size - 1) < b
low_size b size few code some =
    let c : IsCeil b (ceil_log2 b) = is_ceil b code.some (omega (arith, code.small)) in
    rw code.size_is (c.low (omega (arith, code.size_is, some)))

pub none_takes : (b size few bits count : ℕ) → IsGapCode b size few → size ≡ 0 → bits < 2 ^ count → Takes (short b 0) bits count bits count
none_takes b size few bits count code none small =
    let one : b ≡ 1 = omega (arith, size_sum b size few code, ap (λ k. 2 ^ k) none, code.some) in
    let is : short b 0 ≡ [] = ap (λ n. short n 0) one ∙ no_bits in
    record { whole = ap (λ l. l ++ digits count bits) (sym is); fewer = omega (arith, ap length is); below = small }

pub low_takes : (b size few bits count c : ℕ) → IsGapCode b size few → 1 ≤ size → size ≤ count → c ≡ count - size + 1 → bits / 2 ^ c < few → Takes (short b (bits / 2 ^ c)) bits count (bits % 2 ^ c) c
low_takes b size few bits count c code some le at lt =
    let r : ℕ = bits / 2 ^ c in
    let low : r < shorter b = rw code.few_is at lt in
    takes_first (short b r) (size - 1) c count bits (omega (arith, at, some, le)) (short_low b r low ∙ ap (λ n. digits (n - 1) r) (sym code.size_is))

pub low_below : (b size few r : ℕ) → IsGapCode b size few → 1 ≤ size → r < few → r < b
low_below b size few r code some lt =
    let e : suc (size - 1) ≡ size = omega arith in
    let same : 2 ^ size ≡ 2 ^ suc (size - 1) = ap (λ n. 2 ^ n) (sym e) in
    omega (arith, size_sum b size few code, low_size b size few code some, same, two-pow-succ (size - 1), lt)

twice_few : (few bits c : ℕ) → few ≤ bits / 2 ^ (c + 1) → 2 * few ≤ bits / 2 ^ c
twice_few few bits c above = let half : bits / 2 ^ c / 2 ≡ bits / 2 ^ (c + 1) = shr-shr bits c 1 in omega (arith, half, above)

pub few_below : (few bits c : ℕ) → few ≤ bits / 2 ^ (c + 1) → few ≤ bits / 2 ^ c
few_below few bits c above = omega (arith, twice_few few bits c above)

pub high_takes : (b size few bits count c : ℕ) → IsGapCode b size few → size ≤ count → c ≡ count - size → few ≤ bits / 2 ^ (c + 1) → Takes (short b (bits / 2 ^ c - few)) bits count (bits % 2 ^ c) c
high_takes b size few bits count c code le at above =
    let v : ℕ = bits / 2 ^ c - few in
    let twice : 2 * few ≤ bits / 2 ^ c = twice_few few bits c above in
    let back : v + few ≡ bits / 2 ^ c = omega (arith, twice) in
    let high : shorter b ≤ v = rw (← code.few_is) (omega (arith, twice)) in
    takes_first (short b v) size c count bits (omega (arith, at, le))
    (short_high b v high ∙ ap (λ n. digits n (v + shorter b)) (sym code.size_is) ∙ ap (λ n. digits size (v + n)) (sym code.few_is) ∙ ap (digits size) back)

first_below : (bits count a c : ℕ) → count ≡ a + c → bits < 2 ^ count → bits / 2 ^ c < 2 ^ a
first_below bits count a c sum small =
    let wide : 2 ^ count ≡ 2 ^ a * 2 ^ c = ap (λ n. 2 ^ n) sum ∙ pow-add 2 a c in
    div_below bits (2 ^ c) (2 ^ a) (pow_pos c) (omega (arith, small, wide))

pub high_below : (b size few bits count c : ℕ) → IsGapCode b size few → size ≤ count → c ≡ count - size → bits < 2 ^ count → bits / 2 ^ c - few < b
high_below b size few bits count c code le at small =
    omega (arith, size_sum b size few code, first_below bits count size c (omega (arith, at, le)) small, code.some)

-- ---- gaps and counts

pub golomb_takes : (b size few q v bits count rest left last behind : ℕ) → IsGapCode b size few → v < b → Takes (unary (1 + q)) bits count rest left →
    Takes (short b v) rest left last behind → Takes (golomb b (q * b + v + 1)) bits count last behind
golomb_takes b size few q v bits count rest left last behind code below one two =
    rw (golomb_is b (q * b + v + 1) q v code.some refl below) (takes_both (unary (1 + q)) (short b v) bits count rest left last behind one two)

gamma_of_one : gamma 1 ≡ false ∷ []
unfolding gamma unary ones digits
gamma_of_one = refl

pub one_takes : (bits count c : ℕ) → 1 ≤ count → c ≡ count - 1 → bits / 2 ^ c ≡ 0 → Takes (gamma 1) bits count bits c
one_takes bits count c some at none =
    let width : 0 < 2 ^ c = pow_pos c in
    let parts : bits / 2 ^ c * 2 ^ c + bits % 2 ^ c ≡ bits = omega (arith, width) in
    let same : bits % 2 ^ c ≡ bits = (let e : 0 * 2 ^ c + bits % 2 ^ c ≡ bits = rw none at parts in omega (arith, e)) in
    let takes : Takes (gamma 1) bits count (bits % 2 ^ c) c = takes_first (gamma 1) 1 c count bits (omega (arith, at, some)) (gamma_of_one ∙ sym one_zero ∙ ap (digits 1) (sym none)) in
    subst (λ n. Takes (gamma 1) bits count n c) same takes

few_ones : (bits count rest left n : ℕ) → count ≤ 57 → n ≤ left → Takes (unary (1 + n)) bits count rest left → n ≤ 28
few_ones bits count rest left n few le one = omega (arith, few, le, one.fewer, length_unary_after n)

pub gamma_takes : (bits count rest left n c power : ℕ) → count ≤ 57 → n ≤ left → c ≡ left - n → power ≡ 2 ^ n → Takes (unary (1 + n)) bits count rest left →
    Takes (gamma (power + rest / 2 ^ c)) bits count (rest % 2 ^ c) c × (power + rest / 2 ^ c < 2 ^ 29)
gamma_takes bits count rest left n c power few le at is one =
    let v : ℕ = rest / 2 ^ c in
    let sum : left ≡ n + c = omega (arith, at, le) in
    let below : v < 2 ^ n = first_below rest left n c sum one.below in
    let n_le : n ≤ 28 = few_ones bits count rest left n few le one in
    let up : 2 ^ n ≤ 2 ^ 28 = pow_mono n_le in
    let log : IsLog (2 ^ n + v) n = record { low = omega arith; high = omega (arith, two-pow-succ n, below) } in
    let two : Takes (digits n (2 ^ n + v)) rest left (rest % 2 ^ c) c = takes_first (digits n (2 ^ n + v)) n c left rest sum (with_highest n v below) in
    let both : Takes (gamma (2 ^ n + v)) bits count (rest % 2 ^ c) c = rw (gamma_is n (2 ^ n + v) log (omega (arith, below, up)))
    (takes_both (unary (1 + n)) (digits n (2 ^ n + v)) bits count rest left (rest % 2 ^ c) c one two) in
    (rw is both, omega (arith, is, below, up))

pub posting_takes : (b before gap freq bits count rest left last behind : ℕ) → Takes (golomb b gap) bits count rest left → Takes (gamma freq) rest left last behind →
    let p : Posting = record { doc = before + gap; freq = freq } in Takes (posting_bits b before p) bits count last behind
unfolding posting_bits
posting_takes b before gap freq bits count rest left last behind one two =
    let e : before + gap - before ≡ gap = omega arith in
    rw e (takes_both (golomb b gap) (gamma freq) bits count rest left last behind one two)

-- ---- bits at a reader's place

pub nothing_ahead : (feed : Feeding) (fits : Option Files → Type 0) (place bits count : ℕ) → bits ≡ 0 → count ≡ 0 → IsAhead feed fits place bits count
nothing_ahead feed fits place bits count is are =
    rw (is, are) record {
      below = omega arith;
      few = omega arith;
      held = λ some. absurd (omega (arith, some));
      told = λ files fit. told_nothing (feed.source files) place;
      small = λ some. absurd (omega (arith, some));
    }

pub peeked_ahead : (feed : Feeding) (fits : Option Files → Type 0) (place bits : ℕ) → place ≤ 2 ^ 63 → bits < 2 ^ 57 → HoldsBits feed place 57 →
    ((files : Option Files) → fits files → FromPlace (feed.source files) place (Begins (digits 57 bits))) → IsAhead feed fits place bits 57
peeked_ahead feed fits place bits low small holds told = record { below = small; few = omega arith; held = λ some. holds; told = told; small = λ some. omega (arith, low) }

-- where a code stands first, so does it at the place, and what is left stands behind it
pub code_stands : (told : Option (List ℕ)) (place bits count rest left : ℕ) (code : Bits) → Takes code bits count rest left →
    FromPlace told place (Begins (digits count bits)) → FromPlace told place (Begins code)
code_stands None place bits count rest left code takes begins = tt
code_stands (Some bytes) place bits count rest left code takes begins = begins_first code (digits left rest) _ (subst (λ l. Begins l (drop place (bits_of bytes))) takes.whole begins)

rest_stands : (told : Option (List ℕ)) (place next bits count rest left : ℕ) (code : Bits) → next ≡ place + length code → Takes code bits count rest left →
    FromPlace told place (Begins (digits count bits)) → FromPlace told next (Begins (digits left rest))
rest_stands None place next bits count rest left code at takes begins = tt
rest_stands (Some bytes) place next bits count rest left code at takes begins =
    rw at (rw drop-drop at (begins_second code (digits left rest) _ (subst (λ l. Begins l (drop place (bits_of bytes))) takes.whole begins)))

pub next_ahead : (feed : Feeding) (fits : Option Files → Type 0) (place next bits count rest left : ℕ) (code : Bits) → 0 < feed.page → next ≡ place + length code → Takes code bits count rest left →
    IsAhead feed fits place bits count → IsAhead feed fits next rest left
next_ahead feed fits place next bits count rest left code page at takes ahead = record {
  below = takes.below;
  few = omega (arith, takes.fewer, ahead.few);
  held = λ some. holds_inside feed place next count left page (omega (arith, at)) some (omega (arith, at, takes.fewer)) (ahead.held (omega (arith, takes.fewer, some)));
  told = λ files fit. rest_stands (feed.source files) place next bits count rest left code at takes (ahead.told files fit);
  small = λ some. omega (arith, at, takes.fewer, ahead.small (omega (arith, takes.fewer, some)));
}

pub some_bits : (b before : ℕ) (p : Posting) → 0 < length (posting_bits b before p)
some_bits b before p = omega (arith, length_posting b before p, length_golomb b (p.doc - before))

pub code_held : (feed : Feeding) (fits : Option Files → Type 0) (place bits count rest left : ℕ) (code : Bits) → 0 < feed.page → Takes code bits count rest left → 0 < length code →
    IsAhead feed fits place bits count → (d : Seen) → Read feed feed d d place (place + length code)
code_held feed fits place bits count rest left code page takes some ahead d =
    read_held feed d place (length code) some (holds_inside feed place place count (length code) page (omega arith) some (omega (arith, takes.fewer)) (ahead.held (omega (arith, takes.fewer, some))))

-- ---- the posting that stands at a place is one

begun : (told : Option (List ℕ)) (place limit x : ℕ) (within : ℕ → Type 0) (words : ℕ → Bits) → within x → FromPlace told place (Begins (words x)) →
    FromPlace told place (AnswersCode (Ok x) within words limit place)
begun None place limit x within words taken begins = tt
begun (Some bytes) place limit x within words taken begins = (taken, begins)

begun_first : (told : Option (List ℕ)) (place : ℕ) (a b : Bits) → FromPlace told place (Begins (a ++ b)) → FromPlace told place (Begins a)
begun_first None place a b begins = tt
begun_first (Some bytes) place a b begins = begins_first a b _ begins

begun_second : (told : Option (List ℕ)) (place : ℕ) (a b : Bits) → FromPlace told place (Begins (a ++ b)) → FromPlace told (place + length a) (Begins b)
begun_second None place a b begins = tt
begun_second (Some bytes) place a b begins = rw drop-drop at (begins_second a b _ begins)

pub one_posting : (told : Option (List ℕ)) (place b before all bits count rest left : ℕ) (q p : Posting) → 1 ≤ b → b < 2 ^ 48 →
    Takes (posting_bits b before q) bits count rest left → FromPlace told place (Begins (digits count bits)) →
    Follows all before q → Follows all before p → Shows told place (posting_bits b before p) → q ≡ p
unfolding posting_bits
one_posting told place b before all bits count rest left q p some small takes begins one two shows =
    let gap : ℕ = q.doc - before in
    let stands : FromPlace told place (Begins (golomb b gap ++ gamma q.freq)) = code_stands told place bits count rest left (golomb b gap ++ gamma q.freq) takes begins in
    let same : gap ≡ p.doc - before =
    gap_got told (Ok gap) (all - before) place b before all p some small refl two shows
    (begun told place (all - before) gap (UpTo (all - before)) (golomb b) (omega (arith, one.after), omega (arith, one.within, one.after))
    (begun_first told place (golomb b gap) (gamma q.freq) stands)) in
    let freq : q.freq ≡ p.freq =
    freq_got told (Ok q.freq) place (place + length (golomb b gap)) b before all gap p refl same two shows
    (begun told (place + length (golomb b gap)) 4294967295 q.freq (UpTo 4294967295) gamma (one.some, omega (arith, one.fits)) (begun_second told place (golomb b gap) (gamma q.freq) stands)) in
    let doc : q.doc ≡ p.doc = omega (arith, same, one.after, two.after) in
    ap (λ d. let r : Posting = record { doc = d; freq = q.freq } in r) doc ∙ ap (λ n. let r : Posting = record { doc = p.doc; freq = n } in r) freq
