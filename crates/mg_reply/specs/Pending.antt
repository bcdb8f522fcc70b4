-- Bytes on the way to a sink.
use Rattle.std.specs.Prelude.{◌≡◌, ℕ, List, ◌++◌, MatchResult}
use Rattle.std.specs.declared.result.Result.{Result}
use Rattle.std.specs.declared.option.Option.{Option}
use Rattle.mg_dev.specs.Causes.{HasLack, HasPutCause}
use Rattle.mg_dev.specs.Streams.{AfterPut, appended, GrewByPrefix}
use Rattle.mg_dev.specs.declared.device.PutErr.{PutErr}
use Rattle.mg_dev.specs.declared.sink.Sink as sinks

-- The bytes came after those that waited; some of all these went to the sink, and the others wait.
pub record Passed (before after : Option (List ℕ)) (waited waiting bytes : List ℕ) : Type 0 where
  pub sent : List ℕ
  pub given : after ≡ appended before sent
  pub whole : sent ++ waiting ≡ waited ++ bytes

-- at `Ok` the bytes were passed on, else a prefix of all these went to the sink
abbrev pub AfterPass : {T E : Type 0} → Option (List ℕ) → Option (List ℕ) → List ℕ → List ℕ → List ℕ → Result T E →
    Type 0
AfterPass before after waited waiting bytes result = MatchResult result (λ _. Passed before after waited waiting bytes)
    (λ _. GrewByPrefix before after (waited ++ bytes))

-- ---- what a call promises that puts bytes or passes them on, by what the type of the sink tells

-- A text was put, or after a refusal a prefix of it.
pub record PutsText {Y : Type 0} (of : sinks.Ghosts Y) (out out_now : Y) (result : Result (Unit {0}) PutErr)
    (text : List ℕ) : Type 0 where
  pub content : AfterPut (of.written out) (of.written out_now) text result
  -- a failure has its cause, and so has want of memory
  pub cause : HasPutCause (of.faults out) (of.faults out_now) result
  pub lack : HasLack (of.lacks out) (of.lacks out_now) result

-- A text was passed on behind the bytes that waited, or after a refusal a prefix of all these was put.
pub record PassesText {Y : Type 0} (of : sinks.Ghosts Y) (out out_now : Y) (waited waiting : List ℕ)
    (result : Result (Unit {0}) PutErr) (text : List ℕ) : Type 0 where
  pub content : AfterPass (of.written out) (of.written out_now) waited waiting text result
  -- a failure has its cause, and so has want of memory
  pub cause : HasPutCause (of.faults out) (of.faults out_now) result
  pub lack : HasLack (of.lacks out) (of.lacks out_now) result
