-- What a reader of a code does, by the functions that tell what contracts see of its feed and its device.
use Rattle.std.specs.Prelude.{◌≡◌, ℕ, ◌+◌, length, Option, Result, IfOk, OnErr, MatchResult}
use Rattle.mg_dev.specs.Files.{Files}
use Rattle.mg_defs.specs.Bits.{Bits}
use Rattle.mg_bits.specs.Feed.{Calm, Feeding, Device}
use Rattle.mg_bits.specs.CodeAnswers.{AnswersCode, CodeCause, OnlyCodePages}
use Rattle.mg_bits.specs.NextBits.{FromNext, ReadNext}
use Rattle.mg_bits.specs.Reading.{Reading}
use Rattle.mg_bits.specs.declared.code_err.CodeErr.{CodeErr}

-- The number is answered whose code stands at the reader's place, or why there is none; of the numbers those are taken that a limit allows.
pub record ReadsCode {Fed Dev : Type 0} (taken : ℕ → ℕ → Type 0) (limit : ℕ) (code : ℕ → Bits)
    (agrees : Fed → Option Files → Type 0)
    (feeding : Fed → Feeding) (device : Dev → Device) (old new : Reading Fed) (dev now : Dev)
    (result : Result ℕ CodeErr) : Type 0 where
  -- the feed agrees with its device
  pub fits : agrees new.feed (device now).files
  -- nothing is read but the feed's own part, and no file changes
  pub calm : Calm (feeding old.feed) (feeding new.feed) (device dev) (device now)
  -- the pages of the code were read, each once, and its last page is held
  pub read : IfOk result (λ x. ReadNext feeding device old new dev now (length (code x)))
  -- where the call is refused, no page was read on which a code that stands there does not lie
  pub pages : OnErr result (OnlyCodePages feeding device old new dev now (taken limit) code)
  -- the place goes behind the code; where the call is refused it is the same
  pub place : MatchResult result (λ x. new.place ≡ old.place + length (code x)) (λ _. new.place ≡ old.place)
  -- the number whose code stands there, or that the bits end within a code, or that none is taken
  pub told : FromNext feeding device old dev (AnswersCode result (taken limit) code limit old.place)
  -- the number is one that is taken
  pub range : IfOk result (taken limit)
  -- a device's failure has a cause
  pub cause : CodeCause result (device dev).faults (device now).faults
