-- What a scan answered is what the run did.
use Rattle.std.proofs.Common.{◌≡◌, ◌≢◌, ◌⊎◌, ◌<◌, ◌≤◌, ◌^◌, ◌∙◌, ℕ, false, List, None, Some, Ok, Err, IsSome, length, sym, ap, subst, inl, inr}
use Rattle.std.specs.Prelude.{Result, OnOk, IfErr, IsErrOf}
use Rattle.std.specs.Option.{ForSome}
use Rattle.mg_dev.specs.Files.{file_at, bytes_at}
use Rattle.mg_dev.specs.Streams.{appended, GrewByPrefix}
use Rattle.mg_dev.specs.declared.part.Part.{Part}
use Rattle.mg_dev.specs.declared.part.Part.TheVariants.{Plain}
use Rattle.mg_dev.specs.declared.fault.Fault.{Fault}
use Rattle.mg_dev.specs.declared.fault.Fault.TheVariants.{StoreFault, NoCollection, ReadFault, TooLarge, Memory}
use Rattle.mg_dev.specs.declared.status.Status.{Status}
use Rattle.mg_dev.specs.declared.status.Status.TheVariants.{Done, Stopped}
use Rattle.mg_defs.specs.Replies.{reply, session}
use Rattle.mg_defs.specs.declared.session.Hearing.TheVariants.{Commands}
use Rattle.mg_defs.specs.InputLimit.{is_too_much}
use Rattle.mg_defs.specs.Limits.{input_limit}
use Rattle.mg_reply.specs.PrintedLines.{RepliedBroken}
use Rattle.mg_reply.specs.Served.{LeftEnough, PrintedInTurn}
use Rattle.mg_plain.specs.Stops.{ScanStops}
use Rattle.mg_dev.specs.Runs.{IfStopped, Run, StoreFailed, InputFailed, OutputFailed, Stops, status_of}
use Rattle.mg_plain.specs.Scanned.{Scanned}
use Rattle.mg_plain.proofs.Complete.{only_memory}
use Rattle.mg_dev.proofs.CallerLemmas.{when_ok, err_by, stopped_by, unless_by}

done_or : (name bytes given : List ℕ) (run : Run) (r : Result (Unit {0}) Fault) → run.status ≡ status_of r
    → IfErr r (ScanStops name (StoreFailed run) (InputFailed run) (OutputFailed run) run.store.files run.input.left)
    → file_at run.store.files name ≡ Some bytes → length bytes ≤ 2 ^ 28 → run.input.left ≡ Some given → is_too_much input_limit given ≡ false
    → ¬ StoreFailed run → ¬ InputFailed run → ¬ OutputFailed run → (run.status ≡ Done) ⊎ Stops run Memory
done_or name bytes given run (Ok u) is cause there small told short no_store no_input no_output = inl is
done_or name bytes given run (Err f) is cause there small told short no_store no_input no_output =
    inr (is ∙ ap Stopped (only_memory _ _ _ _ name bytes given _ f cause there small told short no_store no_input no_output))

module _ (name : List ℕ) (run : Run) (r : Result (Unit {0}) Fault) (is : run.status ≡ status_of r)
    (all : IsSome run.store.files → ForSome run.input.left (λ given. OnOk r (run.out_now.written ≡ appended run.out.written (session (bytes_at run.store.files name) given))))
    (left : ForSome run.input.left (λ given. OnOk r (LeftEnough given run.input_now.left)))
    (within : ForSome run.input.left (λ given. OnOk r (is_too_much input_limit given ≡ false)))
    (prefix : IsSome run.store.files → ForSome run.input.left (λ given. GrewByPrefix run.out.written run.out_now.written (session (bytes_at run.store.files name) given)))
    (in_turn : IsSome run.store.files → PrintedInTurn Commands (reply (bytes_at run.store.files name)) run.input.left run.input_now.left run.out.written run.out_now.written)
    (broken : IsSome run.store.files → IsErrOf r ReadFault →
    ForSome run.input.left (RepliedBroken Commands (reply (bytes_at run.store.files name)) run.out.written run.out_now.written run.input_now.left))
    (silent : IsErrOf r NoCollection → run.out_now.written ≡ run.out.written)
    (silent_large : (size most : ℕ) → IsErrOf r (TooLarge size most) → run.out_now.written ≡ run.out.written)
    (cause : IfErr r (ScanStops name (StoreFailed run) (InputFailed run) (OutputFailed run) run.store.files run.input.left))
    (missing : IsSome run.store.files → file_at run.store.files name ≡ None → (r ≡ Err NoCollection) ⊎ (r ≡ Err StoreFault) ⊎ (r ≡ Err Memory))
    (large : IsSome run.store.files → 2 ^ 28 < length (bytes_at run.store.files name) → (r ≡ Err (TooLarge (length (bytes_at run.store.files name)) (2 ^ 28)))
    ⊎ (r ≡ Err StoreFault) ⊎ (r ≡ Err Memory))
    (files : run.store_now.files ≡ run.store.files) (reads : (p : Part) → p ≢ Plain → run.store_now.reads p ≡ run.store.reads p) where
  pub scanned_by : Scanned name run
  scanned_by = record {
    done = λ told given some end. when_ok _ r (sym is ∙ end) (all told given some);
    left = λ given some end. when_ok _ r (sym is ∙ end) (left given some);
    within = λ given some end. when_ok _ r (sym is ∙ end) (within given some);
    prefix = λ told given some. prefix told given some;
    in_turn = in_turn;
    broken = λ told end given some. broken told (err_by r _ (sym is ∙ end)) given some;
    silent = λ end. silent (err_by r _ (sym is ∙ end));
    silent_large = λ size most end. silent_large size most (err_by r _ (sym is ∙ end));
    cause = subst (λ (s : Status). IfStopped s (ScanStops name (StoreFailed run) (InputFailed run) (OutputFailed run) run.store.files run.input.left)) (sym is) (stopped_by _ r cause);
    missing = λ told none. unless_by run r _ is (missing told none);
    large = λ told more. unless_by run r _ is (large told more);
    complete = λ bytes given there small some short no_store no_input no_output. done_or name bytes given run r is cause there small some short no_store no_input no_output;
    files = files;
    reads = reads;
  }
