-- Two codewords, one behind the other, among the bits of the page that is held.
use Rattle.std.proofs.Common.{◌≡◌, ◌+◌, ◌-◌, ◌*◌, ◌/◌, ◌%◌, ◌^◌, ◌<◌, ◌≤◌, ℕ, List, ◌++◌, length, Option, Some, None, arith, refl, sym, ap, ◌∙◌, subst}
use Rattle.std.proofs.lemmas.Nat.{field_of, shl-shr, shr-shr}
use Rattle.mg_dev.specs.Files.{Files}
use Rattle.mg_defs.specs.Answers.{Below}
use Rattle.mg_defs.specs.Bits.{Begins, FromPlace, digits}
use Rattle.mg_defs.specs.Canon.{codeword}
use Rattle.mg_defs.proofs.BitLaws.{digits_mod, length_digits}
use Rattle.mg_defs.proofs.FrontLaws.{shows_right}
use Rattle.mg_bits.specs.Feed.{Feeding, HoldsBits}
use Rattle.mg_bits.specs.Reading.{Reading}
use Rattle.mg_bits.proofs.CallerLemmas.{digits_split, holds_inside, read_held, told_first, walk_whole}
use Rattle.mg_canon.specs.Pairs.{AreShort, HeldSymbols, HeldSymbol, ahead}
use Rattle.mg_canon.specs.Symbols.{FirstFound}
use Rattle.mg_canon.specs.Tables.{Found}

-- ---- what is told of bits behind the first ones

-- the first bits behind others, as a number
field_behind : (next skip count : ℕ) → skip + count ≤ 57 → next * 2 ^ skip % 2 ^ 57 / 2 ^ (57 - count) ≡ next / 2 ^ (57 - (skip + count)) % 2 ^ count
field_behind next skip count within =
    let e : count + (57 - count) ≡ 57 = omega arith in
    let f : skip + (57 - (skip + count)) ≡ 57 - count = omega arith in
    ap (λ k. next * 2 ^ skip % 2 ^ k / 2 ^ (57 - count)) (sym e) ∙ field_of (next * 2 ^ skip) count (57 - count)
    ∙ ap (λ k. next * 2 ^ skip / 2 ^ k % 2 ^ count) (sym f) ∙ ap (λ n. n % 2 ^ count) (sym (shr-shr (next * 2 ^ skip) skip (57 - (skip + count))))
    ∙ ap (λ n. n / 2 ^ (57 - (skip + count)) % 2 ^ count) (shl-shr next skip)

digits_behind : (next skip count : ℕ) → skip + count ≤ 57 → digits count (next / 2 ^ (57 - (skip + count))) ≡ digits count (next * 2 ^ skip % 2 ^ 57 / 2 ^ (57 - count))
digits_behind next skip count within =
    sym (digits_mod count count (next / 2 ^ (57 - (skip + count))) (omega arith)) ∙ ap (digits count) (sym (field_behind next skip count within))

told_behind : (told : Option (List ℕ)) (place skip count next : ℕ) → skip + count ≤ 57 → FromPlace told place (Begins (digits 57 next)) →
    FromPlace told (place + skip) (Begins (digits count (next * 2 ^ skip % 2 ^ 57 / 2 ^ (57 - count))))
told_behind None place skip count next within begins = tt
told_behind (Some bytes) place skip count next within begins =
    let n : ℕ = next / 2 ^ (57 - (skip + count)) in
    let both : FromPlace (Some bytes) place (Begins (digits (skip + count) n)) = told_first (Some bytes) place 57 (skip + count) (57 - (skip + count)) next (omega arith) begins in
    let parts : FromPlace (Some bytes) place (Begins (digits skip (n / 2 ^ count) ++ digits count n)) =
    subst (λ d. FromPlace (Some bytes) place (Begins d)) (digits_split skip count n) both in
    let second : FromPlace (Some bytes) (place + skip) (Begins (digits count n)) =
    shows_right (Some bytes) place (place + skip) (digits skip (n / 2 ^ count)) (digits count n) (omega (arith, length_digits skip (n / 2 ^ count))) parts in
    subst (λ d. FromPlace (Some bytes) (place + skip) (Begins d)) (digits_behind next skip count within) second

-- ---- the symbols that were found

module _ {Fed : Type 0} {agrees : Fed → Option Files → Type 0} {feeding : Fed → Feeding} where
  -- a codeword of bits that are held
  held_one : (value : ℕ) {lengths : List ℕ} {old new : Reading Fed} {symbol size : ℕ} → symbol < length lengths → codeword lengths symbol ≡ digits size value → 1 ≤ size →
      new.feed ≡ old.feed → new.place ≡ old.place + size → HoldsBits (feeding old.feed) old.place size →
      ((files : Option Files) → agrees old.feed files → FromPlace ((feeding old.feed).source files) old.place (Begins (digits size value))) →
      HeldSymbol agrees feeding lengths old new symbol
  held_one value {lengths} {old} {new} {symbol} {size} taken code some feed place holds told =
      let long : length (codeword lengths symbol) ≡ size = ap length code ∙ length_digits size value in
      record {
        taken = taken;
        read = λ dev. rw (long, feed) (read_held (feeding old.feed) dev old.place size some holds);
        place = omega (arith, long, place);
        told = λ files fits. walk_whole _ old.place 1 (Below (length lengths)) (codeword lengths) _ symbol (told files fits) taken code;
      }

  -- two codewords, one behind the other
  pub held_two : {first second : List ℕ} {old new : Reading Fed} {next : ℕ} {one two : Found} → 0 < (feeding old.feed).page → HoldsBits (feeding old.feed) old.place 57 →
      ((files : Option Files) → agrees old.feed files → FromPlace ((feeding old.feed).source files) old.place (Begins (digits 57 next))) →
      FirstFound first next (Some one) → FirstFound second (next * 2 ^ one.size % 2 ^ 57) (Some two) → one.size + two.size ≤ 57 → new.feed ≡ old.feed → new.place ≡ old.place + (one.size + two.size) →
      HeldSymbols agrees feeding first second old new (one.symbol, two.symbol)
  held_two {first} {second} {old} {new} {next} {one} {two} some holds told a b within feed place =
      let long : length (codeword first one.symbol) ≡ one.size = ap length a.code ∙ length_digits one.size _ in
      let behind : Reading Fed = ahead old one.size in
      let is : ahead old one.size ≡ ahead old (length (codeword first one.symbol)) = ap (ahead old) (sym long) in
      let left : HeldSymbol agrees feeding first old behind one.symbol = held_one _ a.symbol a.code a.some refl refl
      (holds_inside (feeding old.feed) old.place old.place 57 one.size some (omega arith) a.some (omega (arith, a.small)) holds)
      (λ files fits. told_first ((feeding old.feed).source files) old.place 57 one.size (57 - one.size) next (omega (arith, a.small)) (told files fits)) in
      let right : HeldSymbol agrees feeding second behind new two.symbol = held_one _ b.symbol b.code b.some feed (omega (arith, place))
      (holds_inside (feeding old.feed) old.place (old.place + one.size) 57 two.size some (omega arith) b.some (omega (arith, within)) holds)
      (λ files fits. told_behind ((feeding old.feed).source files) old.place one.size two.size next within (told files fits)) in
      record {
        one = subst (λ r. HeldSymbol agrees feeding first old r one.symbol) is left;
        two = subst (λ r. HeldSymbol agrees feeding second r new two.symbol) is right;
      }

-- ---- none were found

-- codewords that are too long together
pub too_long : {first second : List ℕ} {next behind : ℕ} {one two : Found} → FirstFound first next (Some one) → FirstFound second behind (Some two) → 57 < one.size + two.size →
    AreShort first second → ⊥
too_long {next = next} {behind = behind} {one = one} {two = two} a b long short =
    let first_size = ap length a.code ∙ length_digits one.size (next / 2 ^ (57 - one.size)) in
    let second_size = ap length b.code ∙ length_digits two.size (behind / 2 ^ (57 - two.size)) in
    absurd (omega (arith, long, short.short one.symbol two.symbol a.symbol b.symbol, first_size, second_size))
