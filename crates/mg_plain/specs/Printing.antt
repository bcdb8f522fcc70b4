-- What a call that writes to a sink does to it, by what the sink's type tells.
use Rattle.std.specs.Prelude.{◌≡◌, ℕ, ◌≤◌, List, IfErr, IsErrOf}
use Rattle.std.specs.declared.result.Result.{Result}
use Rattle.mg_dev.specs.Causes.{Rose}
use Rattle.mg_dev.specs.Streams.{AfterPut}
use Rattle.mg_dev.specs.declared.device.PutErr.{PutErr}
use Rattle.mg_dev.specs.declared.part_err.PartErr.TheVariants as part
use Rattle.mg_dev.specs.declared.show_err.ShowErr.{ShowErr}
use Rattle.mg_dev.specs.declared.show_err.ShowErr.TheVariants as show
use Rattle.mg_dev.specs.declared.sink.Sink as sinks
use Rattle.mg_reply.specs.Pending as reply
use Rattle.mg_plain.specs.Stops.{AnswerStops}

-- a reply is written, or after a refusal a prefix of it
pub record WritesReply {X : Type 0} (text : List ℕ) (result : Result (Unit {0}) ShowErr) (of : sinks.Ghosts X) (out out_now : X) :
    Type 0 where
  pub content : AfterPut (of.written out) (of.written out_now) text result
  pub later : of.faults out ≤ of.faults out_now
  pub cause : IfErr result (AnswerStops (Rose (of.faults out) (of.faults out_now)) (Rose (of.lacks out) (of.lacks out_now)))
  -- the allocator lacks memory only before anything is written
  pub silent : IsErrOf result (show.Part part.Memory) → of.written out_now ≡ of.written out

-- a text is put, or after a refusal a prefix of it
abbrev pub PutsText : {X : Type 0} → List ℕ → Result (Unit {0}) PutErr → sinks.Ghosts X → X → X → Type 0
PutsText text result of out out_now = reply.PutsText of out out_now result text
