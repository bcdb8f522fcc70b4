-- What a trial answered, once its work was done or refused, and what the run did then.
use Rattle.std.proofs.Common.{◌≡◌, ◌∙◌, ◌⊎◌, ◌<◌, ◌≤◌, ℕ, List, length, Ok, Err, Option, refl, sym, ap, subst, inl, inr}
use Rattle.std.specs.Prelude.{Result, IfErr}
use Rattle.mg_dev.specs.Causes.{HasPutCause, HasLack, Rose}
use Rattle.mg_dev.specs.Faults.{fault_of_output}
use Rattle.mg_dev.specs.Streams.{appended, AfterPut}
use Rattle.mg_dev.specs.declared.device.PutErr.{PutErr}
use Rattle.mg_dev.specs.declared.device.PutErr.TheVariants as put
use Rattle.mg_dev.specs.declared.fault.Fault.{Fault}
use Rattle.mg_dev.specs.declared.fault.Fault.TheVariants.{StoreFault, TooLarge, TooManyDocuments, TooManyPieces, Memory}
use Rattle.mg_dev.specs.declared.status.Status.{Status}
use Rattle.mg_dev.specs.declared.status.Status.TheVariants.{Done, Stopped}
use Rattle.mg_defs.specs.declared.Stream.{Stream}
use Rattle.mg_defs.specs.Generator.{made_collection}
use Rattle.mg_defs.specs.Limits.{held_bytes, version_2}
use Rattle.mg_defs.specs.WithinLimits.{IsWithinLimits}
use Rattle.mg_defs.specs.Marks.{PassesFirst, start, piece}
use Rattle.mg_defs.specs.Summaries.{trial_lines, trial_text}
use Rattle.mg_top.specs.Lines.{bytes_line, compared_line, trial_summary_lines}
use Rattle.mg_dev.specs.Runs.{IfStopped, IsDone, OutputFailed, RefusedFor, Run, Stops, status_of}
use Rattle.mg_top.specs.Ends.{SilentAfter, SilentOnOutput}
use Rattle.mg_top.specs.Trials.{TrialStops, trial_summary}
use Rattle.mg_top.proofs.EndLaws.{kept_silent}
use Rattle.mg_top.specs.Tried.{Tried}
use Rattle.mg_top.specs.declared.trial_summary.TrialSummary.{TrialSummary}
use Rattle.mg_dev.proofs.CallerLemmas.{only_lacks, put_grew, stopped_by}
use Rattle.mg_top.proofs.TrialLaws.{no_refusal}

text_of_trial : (docs : ℕ) (collection input : List ℕ) → trial_summary_lines (trial_summary docs collection input) ≡ trial_lines docs collection input
unfolding trial_summary_lines trial_lines bytes_line compared_line
text_of_trial docs collection input = refl

-- ---- the summary was put

pub put_text : {T : Type 0} (old new : Option (List ℕ)) (docs : ℕ) (collection input : List ℕ) (s : TrialSummary) (r : Result T PutErr)
    → s ≡ trial_summary docs collection input → AfterPut old new (trial_summary_lines s) r → AfterPut old new (trial_lines docs collection input) r
put_text old new docs collection input s r is content =
    subst (λ (bytes : List ℕ). AfterPut old new bytes r) (ap trial_summary_lines is ∙ text_of_trial docs collection input) content

-- it was refused
pub put_silent : {T : Type 0} (e : PutErr) (old new : Option (List ℕ)) (l m : ℕ) → HasLack {T = T} l m (Err e) → SilentAfter old new l m (fault_of_output e)
put_silent put.Failed old new l m lack = tt
put_silent put.Memory old new l m lack = inr (lack.lacked refl)

pub put_stops : {T : Type 0} (e : PutErr) (s : Type 0) (collection : List ℕ) (f g : ℕ) → HasPutCause {T = T} f g (Err e) → TrialStops s (Rose f g) collection (fault_of_output e)
put_stops put.Failed s collection f g has = has.failed refl
put_stops put.Memory s collection f g has = tt

pub put_done : {T : Type 0} (e : PutErr) (f g : ℕ) → HasPutCause {T = T} f g (Err e) → ¬ Rose f g → IsDone {T = Unit {0}} (Err (fault_of_output e))
put_done put.Failed f g has never = absurd (never (has.failed refl))
put_done put.Memory f g has never = tt

-- what would have been refused was not
pub never_refused : {P : Type 0} (s : TrialSummary) (g : Fault) → RefusedFor (Ok s) g → P
never_refused s g holds = absurd (no_refusal s g holds)

-- ---- the work was refused

pub work_silent : (f : Fault) (s : Type 0) (collection : List ℕ) (told : Option (List ℕ)) (l m : ℕ) → TrialStops s ⊥ collection f → SilentAfter told told l m f
work_silent f s collection told l m cause = kept_silent f told told l m refl

pub refused_too : (f g : Fault) → RefusedFor {T = TrialSummary} (Err f) g → RefusedFor {T = Unit {0}} (Err f) g
refused_too f g (inl e) = inl cc
refused_too f g (inr (inl e)) = inr (inl cc)
refused_too f g (inr (inr e)) = inr (inr cc)

pub done_too : (f : Fault) → IsDone {T = TrialSummary} (Err f) → IsDone {T = Unit {0}} (Err f)
done_too f done = subst (λ (g : Fault). IsDone {T = Unit {0}} (Err g)) (sym (only_lacks TrialSummary f done)) tt

-- ---- a run

-- no refusal for the store where it can't fail
no_store_fault : (r : Result (Unit {0}) Fault) (o : Type 0) (collection : List ℕ) → IfErr r (TrialStops ⊥ o collection) → r ≡ Err StoreFault → ⊥
no_store_fault r o collection cause is = subst (λ (x : Result (Unit {0}) Fault). IfErr x (TrialStops ⊥ o collection)) is cause

done_or : (run : Run) (r : Result (Unit {0}) Fault) → run.status ≡ status_of r → IsDone r → (run.status ≡ Done) ⊎ Stops run Memory
done_or run (Ok u) is done = inl is
done_or run (Err f) is done = inr (is ∙ ap Stopped (only_lacks (Unit {0}) f done))

module _ (seed docs : ℕ) (run : Run) (r : Result (Unit {0}) Fault) (is : run.status ≡ status_of r)
    (store : run.store_now ≡ run.store) (input : run.input_now ≡ run.input)
    (text : AfterPut run.out.written run.out_now.written (trial_text seed docs) r)
    (silent : IfErr r (SilentAfter run.out.written run.out_now.written run.out.lacks run.out_now.lacks))
    (cause : IfErr r (TrialStops ⊥ (OutputFailed run) (made_collection seed docs)))
    (large : held_bytes < length (made_collection seed docs) → RefusedFor r (TooLarge (length (made_collection seed docs)) held_bytes))
    (documents : length (made_collection seed docs) ≤ held_bytes → PassesFirst version_2 (made_collection seed docs) start → RefusedFor r TooManyDocuments)
    (pieces : (stream : Stream) (word : List ℕ) → length (made_collection seed docs) ≤ held_bytes →
    PassesFirst version_2 (made_collection seed docs) (piece stream word) → RefusedFor r (TooManyPieces stream))
    (complete : length (made_collection seed docs) ≤ held_bytes → IsWithinLimits 2 (made_collection seed docs) → ¬ OutputFailed run → IsDone r) where
  stops_or : (g : Fault) → RefusedFor r g → Stops run g ⊎ Stops run Memory
  stops_or g (inl e) = inl (is ∙ ap status_of e)
  stops_or g (inr (inl e)) = absurd (no_store_fault r (OutputFailed run) (made_collection seed docs) cause e)
  stops_or g (inr (inr e)) = inr (is ∙ ap status_of e)

  put_when_done : (q : Result (Unit {0}) Fault) → status_of q ≡ Done → AfterPut run.out.written run.out_now.written (trial_text seed docs) q →
      run.out_now.written ≡ appended run.out.written (trial_text seed docs)
  put_when_done (Ok u) end put = put
  put_when_done (Err f) end put = cc

  pub tried_by : Tried seed docs run
  tried_by = record {
    done = λ end. put_when_done r (sym is ∙ end) text;
    prefix = put_grew r _ _ _ text;
    silent = subst (λ (s : Status). IfStopped s (SilentOnOutput run)) (sym is) (stopped_by _ r silent);
    cause = subst (λ (s : Status). IfStopped s (TrialStops ⊥ (OutputFailed run) (made_collection seed docs))) (sym is) (stopped_by _ r cause);
    large = λ more. stops_or _ (large more);
    documents = λ few passes. stops_or _ (documents few passes);
    pieces = λ stream word few passes. stops_or _ (pieces stream word few passes);
    complete = λ few within no_output. done_or run r is (complete few within no_output);
    store = store;
    input = input;
  }
