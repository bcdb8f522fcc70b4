-- How a run ends by what its call answered, and by what the put of its text answered.
use Rattle.std.proofs.Common.{◌≡◌, ◌∙◌, ◌⊎◌, ℕ, List, Ok, Err, Option, refl, sym, ap, subst, inl, inr}
use Rattle.std.specs.Prelude.{Result}
use Rattle.mg_dev.specs.Causes.{HasLack, HasPutCause}
use Rattle.mg_dev.specs.Faults.{fault_of_output}
use Rattle.mg_dev.specs.StreamLaws.{grew_nothing}
use Rattle.mg_dev.specs.Streams.{appended, AfterPut, GrewByPrefix}
use Rattle.mg_dev.specs.declared.device.PutErr.{PutErr}
use Rattle.mg_dev.specs.declared.device.PutErr.TheVariants as put
use Rattle.mg_dev.specs.declared.fault.Fault.{Fault}
use Rattle.mg_dev.specs.declared.fault.Fault.TheVariants.{Usage, StoreFault, WriteFault, Memory}
use Rattle.mg_dev.specs.declared.status.Status.{Status}
use Rattle.mg_dev.specs.declared.status.Status.TheVariants.{Done, Stopped}
use Rattle.mg_dev.specs.Runs.{IfStopped, OutputFailed, Run, StoppedFor, Stops, StopsUnless}
use Rattle.mg_dev.proofs.CallerLemmas.{put_grew}
use Rattle.mg_top.specs.Ends.{CallsOnce, EndsBy, Prints, SilentAfter, SilentOnOutput, StopsByOutput}

same_fault : (status : Status) (f g : Fault) → status ≡ Stopped f → status ≡ Stopped g → f ≡ g
same_fault status f g one two = cc

not_done : (status : Status) (f : Fault) → status ≡ Stopped f → status ≡ Done → ⊥
not_done status f one two = cc

-- a call that was done was not refused
pub never_stopped : (f : Fault) → Done ≡ Stopped f → ⊥
never_stopped f e = cc

pub never_refused : (g : Fault) → StoppedFor Done g → ⊥
never_refused g (inl e) = never_stopped g e
never_refused g (inr (inl e)) = never_stopped StoreFault e
never_refused g (inr (inr e)) = never_stopped Memory e

-- nothing was written
pub kept_silent : (f : Fault) (old new : Option (List ℕ)) (l m : ℕ) → new ≡ old → SilentAfter old new l m f
kept_silent WriteFault old new l m same = tt
kept_silent Memory old new l m same = inl same
kept_silent other old new l m same = same

-- ---- the call was refused

pub refused_prints : (run : Run) (f : Fault) (text : List ℕ) → Stops run f → run.out_now ≡ run.out → Prints text run
refused_prints run f text is out = record {
  whole = λ end. absurd (not_done run.status f is end);
  prefix = subst (λ (w : Option (List ℕ)). GrewByPrefix run.out.written w text) (ap (λ s. s.written) (sym out)) (grew_nothing run.out.written text);
}

pub refused_called : (promise : Status → Type 0) (run : Run) (f : Fault) → Stops run f → run.out_now ≡ run.out → promise (Stopped f) → CallsOnce promise run
refused_called promise run f is out promised = inr (record { call = Stopped f; promised = promised; ends = (is, out) })

-- ---- the call was done, and its text was put

-- the status by what the put answered
abbrev pub status_of_put : Result (Unit {0}) PutErr → Status
status_of_put (Ok u) = Done
status_of_put (Err refusal) = Stopped (fault_of_output refusal)

put_stops : (run : Run) (w : Result (Unit {0}) PutErr) → HasPutCause run.out.faults run.out_now.faults w → HasLack run.out.lacks run.out_now.lacks w
    → IfStopped (status_of_put w) (StopsByOutput run)
put_stops run (Ok u) has lack = tt
put_stops run (Err put.Failed) has lack = has.failed refl
put_stops run (Err put.Memory) has lack = lack.lacked refl

pub put_called : (promise : Status → Type 0) (run : Run) (w : Result (Unit {0}) PutErr) → run.status ≡ status_of_put w → promise Done
    → HasPutCause run.out.faults run.out_now.faults w → HasLack run.out.lacks run.out_now.lacks w → CallsOnce promise run
put_called promise run w is promised has lack =
    inr (record { call = Done; promised = promised; ends = subst (λ (s : Status). IfStopped s (StopsByOutput run)) (sym is) (put_stops run w has lack) })

put_whole : (w : Result (Unit {0}) PutErr) (status : Status) (old new : Option (List ℕ)) (text : List ℕ) → status ≡ status_of_put w → status ≡ Done
    → AfterPut old new text w → new ≡ appended old text
put_whole (Ok u) status old new text is end content = content
put_whole (Err e) status old new text is end content = absurd (not_done status (fault_of_output e) is end)

pub put_prints : (run : Run) (w : Result (Unit {0}) PutErr) (text : List ℕ) → run.status ≡ status_of_put w → AfterPut run.out.written run.out_now.written text w → Prints text run
put_prints run w text is content = record {
  whole = λ end. put_whole w run.status _ _ text is end content;
  prefix = put_grew w _ _ _ content;
}

-- ---- what follows of the run's status

pub ends_done : (call : Status) (run : Run) → EndsBy call run → run.status ≡ Done → call ≡ Done
ends_done Done run ends is = refl
ends_done (Stopped f) run ends is = absurd (not_done run.status f ends.0 is)

pub ends_stopped : (call : Status) (run : Run) (f : Fault) → EndsBy call run → Stops run f → (call ≡ Stopped f) ⊎ ((call ≡ Done) × StopsByOutput run f)
ends_stopped Done run f ends is = inr (refl, subst (λ (s : Status). IfStopped s (StopsByOutput run)) is ends)
ends_stopped (Stopped g) run f ends is = inl (ap Stopped (same_fault run.status g f ends.0 is))

pub ends_unless : (call : Status) (run : Run) (f : Fault) → EndsBy call run → StoppedFor call f → StopsUnless run f
ends_unless Done run f ends refused = absurd (never_refused f refused)
ends_unless (Stopped g) run f ends refused = subst (λ (s : Status). StoppedFor s f) (sym ends.0) refused

silent_by : (run : Run) (f : Fault) → StopsByOutput run f → SilentOnOutput run f
silent_by run WriteFault by = tt
silent_by run Memory by = inr by
silent_by run other by = absurd by

silent_at : (run : Run) (status : Status) → IfStopped status (StopsByOutput run) → IfStopped status (SilentOnOutput run)
silent_at run Done by = tt
silent_at run (Stopped f) by = silent_by run f by

pub ends_silent : (call : Status) (run : Run) → EndsBy call run → IfStopped run.status (SilentOnOutput run)
ends_silent Done run ends = silent_at run run.status ends
ends_silent (Stopped f) run ends =
    subst (λ (s : Status). IfStopped s (SilentOnOutput run)) (sym ends.0) (kept_silent f _ _ _ _ (ap (λ s. s.written) ends.1))

memory_by : (run : Run) (f : Fault) → StopsByOutput run f → ¬ OutputFailed run → f ≡ Memory
memory_by run WriteFault by never = absurd (never by)
memory_by run Memory by never = refl
memory_by run other by never = absurd by

done_or : (run : Run) (status : Status) → IfStopped status (StopsByOutput run) → ¬ OutputFailed run → (status ≡ Done) ⊎ (status ≡ Stopped Memory)
done_or run Done by never = inl refl
done_or run (Stopped f) by never = inr (ap Stopped (memory_by run f by never))

pub ends_complete : (call : Status) (run : Run) → EndsBy call run → (call ≡ Done) ⊎ (call ≡ Stopped Memory) → ¬ OutputFailed run → (run.status ≡ Done) ⊎ Stops run Memory
ends_complete Done run ends answered never = done_or run run.status ends never
ends_complete (Stopped f) run ends (inl e) never = absurd (never_stopped f (sym e))
ends_complete (Stopped f) run ends (inr e) never = inr (ends.0 ∙ e)

-- a call that never stops for a fault is not how a run stops for it
pub never_called : (promise : Status → Type 0) (run : Run) → (promise (Stopped Usage) → ⊥) → CallsOnce promise run → Stops run Usage → ⊥
never_called promise run never (inl lacks) is = let bad : Stopped Memory ≡ Stopped Usage = sym lacks.status ∙ is in cc
never_called promise run never (inr it) is = elim (ends_stopped it.call run Usage it.ends is) [
  | inl refused ↦ never (subst promise refused it.promised)
  | inr output ↦ output.1
]
