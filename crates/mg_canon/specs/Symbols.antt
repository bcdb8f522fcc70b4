-- How a symbol is read, by the functions that tell what contracts see of a feed and its device.
use Rattle.std.specs.Prelude.{◌≡◌, ℕ, ◌+◌, ◌-◌, ◌/◌, ◌^◌, ◌<◌, ◌≤◌, List, length, Option, Result, Err, IfOk, IfSome, IfNone, OnErr, MatchResult}
use Rattle.mg_dev.specs.Files.{Files}
use Rattle.mg_defs.specs.Answers.{Below}
use Rattle.mg_defs.specs.Bits.{digits}
use Rattle.mg_defs.specs.Canon.{codeword}
use Rattle.mg_bits.specs.CodeAnswers.{AnswersCode, CodeCause, OnlyCodePages}
use Rattle.mg_bits.specs.Feed.{Calm, Feeding, Device}
use Rattle.mg_bits.specs.NextBits.{FromNext, ReadNext}
use Rattle.mg_bits.specs.Reading.{Reading}
use Rattle.mg_bits.specs.declared.code_err.CodeErr.{CodeErr}
use Rattle.mg_bits.specs.declared.code_err.CodeErr.TheVariants.{Over}
use Rattle.mg_canon.specs.Tables.{Found}

-- the symbol is answered whose codeword stands at the reader's place, or why there is none, by the lengths of the codewords
pub record ReadsSymbol {Fed Dev : Type 0} (lengths : List ℕ) (agrees : Fed → Option Files → Type 0) (feeding : Fed → Feeding)
    (device : Dev → Device) (old new : Reading Fed) (dev now : Dev) (result : Result ℕ CodeErr) : Type 0 where
  -- the feed agrees with its device
  pub fits : agrees new.feed (device now).files
  -- nothing is read but the feed's own part, and no file changes
  pub calm : Calm (feeding old.feed) (feeding new.feed) (device dev) (device now)
  -- the pages of the codeword were read, each once, and its last page is held
  pub read : IfOk result (λ s. ReadNext feeding device old new dev now (length (codeword lengths s)))
  -- where the call is refused, no page was read on which a codeword that stands there does not lie
  pub pages : OnErr result (OnlyCodePages feeding device old new dev now (Below (length lengths)) (codeword lengths))
  -- the place goes behind the codeword; where the call is refused it is the same
  pub place : MatchResult result (λ s. new.place ≡ old.place + length (codeword lengths s)) (λ _. new.place ≡ old.place)
  -- the symbol whose codeword stands there, or that the bits end within a codeword, or that none stands there
  pub told : FromNext feeding device old dev
      (AnswersCode result (Below (length lengths)) (codeword lengths) 1 old.place)
  -- it is one of the symbols
  pub symbol : IfOk result (λ s. s < length lengths)
  -- only where there is a single symbol the bits may be the front of no codeword
  pub over : (at limit : ℕ) → result ≡ Err (Over at limit) → length lengths ≡ 1
  -- a device's failure has a cause
  pub cause : CodeCause result (device dev).faults (device now).faults

-- the symbol is found whose codeword 57 bits begin with, by the lengths of the codewords
pub record FirstFound (lengths : List ℕ) (next : ℕ) (result : Option Found) : Type 0 where
  -- it is one of the symbols
  pub symbol : IfSome result (λ found. found.symbol < length lengths)
  -- its codeword is the first of the bits, so many
  pub code : IfSome result (λ found. codeword lengths found.symbol
      ≡ digits found.size (next / 2 ^ (57 - found.size)))
  -- the codeword has a bit
  pub some : IfSome result (λ found. 1 ≤ found.size)
  -- and no more than 48
  pub small : IfSome result (λ found. found.size ≤ 48)
  -- only where there is a single symbol none may be found
  pub none : IfNone result (length lengths ≡ 1)
