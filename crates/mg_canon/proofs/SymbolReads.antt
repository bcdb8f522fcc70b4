-- The ways out of a reader of a symbol: each makes what the reader promises.
use Rattle.std.proofs.Common.{◌≡◌, ◌-◌, ◌/◌, ◌%◌, ◌^◌, ◌<◌, ◌≤◌, ℕ, Bool, List, length, Option, Some, None, Result, Ok, Err, ap, sym, ◌∙◌, subst}
use Rattle.mg_dev.specs.Files.{Files}
use Rattle.mg_defs.specs.Answers.{Below}
use Rattle.mg_defs.specs.Bits.{digits}
use Rattle.mg_defs.specs.Canon.{codeword}
use Rattle.mg_bits.specs.CodeAnswers.{of_bit}
use Rattle.mg_bits.specs.CodeReads.{ReadsCode}
use Rattle.mg_bits.specs.Feed.{Device as Seen, Feeding}
use Rattle.mg_bits.specs.NextBits.{ReadsNext}
use Rattle.mg_bits.specs.Reader.{AnswersBit}
use Rattle.mg_bits.specs.Reading.{Reading}
use Rattle.mg_bits.specs.declared.bit_err.BitErr.{BitErr}
use Rattle.mg_bits.specs.declared.bit_err.BitErr.TheVariants.{Device, End}
use Rattle.mg_bits.specs.declared.code_err.CodeErr.{CodeErr}
use Rattle.mg_bits.specs.declared.code_err.CodeErr.TheVariants.{Over}
use Rattle.mg_bits.proofs.CallerLemmas.{HasRead, a_code_is_cut, code_is_read, no_code_is_read}
use Rattle.mg_canon.specs.Symbols.{FirstFound, ReadsSymbol}
use Rattle.mg_canon.specs.Tables.{Found, found_in}
use Rattle.mg_canon.proofs.Decoding.{GoesOn, IsCodeword, NoCodeword}

-- ---- from 57 bits

pub first_is : {lengths : List ℕ} {symbol read value next : ℕ} → IsCodeword lengths symbol read value → 1 ≤ read → read ≤ 48 → value ≡ next / 2 ^ (57 - read) →
    FirstFound lengths next (Some (record { symbol = symbol; size = read }))
first_is {read = read} found some small is = record { symbol = found.taken; code = found.code ∙ ap (digits read) is; some = some; small = small; none = tt }

pub first_is_none : {lengths : List ℕ} {next : ℕ} → length lengths ≡ 1 → FirstFound lengths next None
first_is_none alone = record { symbol = tt; code = tt; some = tt; small = tt; none = alone }

abbrev pair_of : ℕ → ℕ → Found
pair_of symbol size = record { symbol = symbol; size = size }

-- the same where both are told by an entry
pub entry_found : {lengths : List ℕ} {next : ℕ} (entry symbol size : ℕ) → entry / 64 ≡ symbol → entry % 64 ≡ size → FirstFound lengths next (Some (pair_of symbol size)) →
    FirstFound lengths next (Some (found_in entry))
entry_found {lengths} {next} entry symbol size of_symbol of_size found =
    subst (λ k. FirstFound lengths next (Some (pair_of (entry / 64) k))) (sym of_size) (subst (λ k. FirstFound lengths next (Some (pair_of k size))) (sym of_symbol) found)

-- ---- bit by bit

never_over : (refusal : BitErr) (start at limit : ℕ) (P : Type 0) → ◌≡◌ {A = Result ℕ CodeErr} (Err (of_bit refusal start)) (Err (Over at limit)) → P
never_over Device start at limit P is = absurd cc
never_over (End place) start at limit P is = absurd cc

abbrev reading : {Fed : Type 0} → Fed → ℕ → Reading Fed
reading feed place = record { feed = feed; place = place }

same_reading : {Fed : Type 0} {a b : Reading Fed} → a.feed ≡ b.feed → a.place ≡ b.place → a ≡ b
same_reading {Fed} {a} {b} feed place = ap (λ (f : Fed). reading f a.place) feed ∙ ap (reading b.feed) place

module _ {Fed Dev : Type 0} {agrees : Fed → Option Files → Type 0} {feeding : Fed → Feeding} {device : Dev → Seen} {lengths : List ℕ} where
  as_symbol : {old new : Reading Fed} {dev now : Dev} {result : Result ℕ CodeErr} →
      ReadsCode (λ limit. Below (length lengths)) 1 (codeword lengths) agrees feeding device old new dev now result →
      ((at limit : ℕ) → result ≡ Err (Over at limit) → length lengths ≡ 1) → ReadsSymbol lengths agrees feeding device old new dev now result
  as_symbol one over = record {
    fits = one.fits;
    calm = one.calm;
    read = one.read;
    pages = one.pages;
    place = one.place;
    told = one.told;
    symbol = one.range;
    over = over;
    cause = one.cause;
  }

  -- a call from where another left the reader
  pub symbol_from : {first old new : Reading Fed} {dev now : Dev} {result : Result ℕ CodeErr} → old.feed ≡ first.feed → old.place ≡ first.place →
      ReadsSymbol lengths agrees feeding device old new dev now result → ReadsSymbol lengths agrees feeding device first new dev now result
  symbol_from {first} {old} {new} {dev} {now} {result} feed place one =
      subst (λ r. ReadsSymbol lengths agrees feeding device r new dev now result) (same_reading feed place) one

  module _ {read value : ℕ} {old mid : Reading Fed} {d0 d1 : Dev} (one : HasRead agrees feeding device old mid d0 d1 (digits read value)) where
    -- the codeword of a symbol was read
    pub symbol_read : {x : ℕ} → IsCodeword lengths x read value → ReadsSymbol lengths agrees feeding device old mid d0 d1 (Ok x)
    symbol_read {x} found = as_symbol (code_is_read x one found.taken found.code) (λ at limit is. absurd cc)

    -- no codeword begins so
    pub symbol_none : {new : Reading Fed} → NoCodeword lengths read value → new.feed ≡ mid.feed → new.place ≡ old.place →
        ReadsSymbol lengths agrees feeding device old new d0 d1 (Err (Over old.place 1))
    symbol_none found feed place = as_symbol (no_code_is_read one found.none feed place) (λ at limit is. found.alone)

    -- the next bit is refused
    pub symbol_cut : {lost new : Reading Fed} {d2 : Dev} {refusal : BitErr} → 0 < (feeding old.feed).page → GoesOn lengths read value →
        ReadsNext {T = Bool} feeding device agrees mid lost d1 d2 1 (Err refusal) (AnswersBit (Err refusal) mid.place) → new.feed ≡ lost.feed → new.place ≡ old.place →
        ReadsSymbol lengths agrees feeding device old new d0 d2 (Err (of_bit refusal old.place))
    symbol_cut {refusal = refusal} some goes two feed place =
        as_symbol (a_code_is_cut some one two goes.cut goes.free feed place) (λ at limit is. never_over refusal old.place at limit _ is)
