-- What a decoding answered is what the run did.
use Rattle.std.proofs.Common.{◌≡◌, ◌∙◌, ◌⊎◌, ◌≤◌, ℕ, List, [], Ok, Err, IsSome, Option, sym, ap, subst, inl, inr}
use Rattle.std.specs.Prelude.{Result, IfErr}
use Rattle.mg_dev.specs.Files.{bytes_at}
use Rattle.mg_dev.specs.Names.{full_name, number}
use Rattle.mg_dev.specs.Streams.{appended, AfterPut}
use Rattle.mg_dev.specs.declared.part.Part.{Part}
use Rattle.mg_dev.specs.declared.part.Part.TheVariants as part
use Rattle.mg_dev.specs.declared.fault.Fault.{Fault}
use Rattle.mg_dev.specs.declared.fault.Fault.TheVariants.{StoreFault, NotBuilt, Memory}
use Rattle.mg_dev.specs.declared.status.Status.{Status}
use Rattle.mg_dev.specs.declared.status.Status.TheVariants.{Done, Stopped}
use Rattle.mg_layout.specs.Stands.{Stands}
use Rattle.mg_decode.specs.Outcomes.{DecodeStops, LacksEarly}
use Rattle.mg_dev.specs.Runs.{IfStopped, IsDone, OutputFailed, Run, Stops, StoreFailed, status_of}
use Rattle.mg_decode.specs.Decoded.{Decoded, WithinHead}
use Rattle.mg_dev.proofs.CallerLemmas.{err_by, only_lacks, put_grew, stopped_by, unless_by}

put_when_done : (r : Result (Unit {0}) Fault) (old new : Option (List ℕ)) (bytes : List ℕ) → status_of r ≡ Done → AfterPut old new bytes r → new ≡ appended old bytes
put_when_done (Ok u) old new bytes is put = put
put_when_done (Err f) old new bytes is put = cc

done_or : (run : Run) (r : Result (Unit {0}) Fault) → run.status ≡ status_of r → IsDone r → (run.status ≡ Done) ⊎ Stops run Memory
done_or run (Ok u) is done = inl is
done_or run (Err fault) is done = inr (is ∙ ap Stopped (only_lacks (Unit {0}) fault done))

module _ (base : List ℕ) (run : Run) (r : Result (Unit {0}) Fault) (is : run.status ≡ status_of r)
    (content : (collection : List ℕ) → Stands run.store.files base collection → AfterPut run.out.written run.out_now.written collection r)
    (silent : r ≡ Err NotBuilt → run.out_now.written ≡ run.out.written)
    (bounded : IsSome run.store.files → WithinHead run.store.files base run.out.written run.out_now.written)
    (early : r ≡ Err Memory → LacksEarly run.store.reads run.store_now.reads run.out run.out_now)
    (cause : IfErr r (DecodeStops (StoreFailed run) (OutputFailed run) run.store.files base))
    (not_built : IsSome run.store.files → bytes_at run.store.files (full_name base part.Head) ≡ [] → (r ≡ Err NotBuilt) ⊎ (r ≡ Err StoreFault) ⊎ (r ≡ Err Memory))
    (complete : (collection : List ℕ) → Stands run.store.files base collection → ¬ StoreFailed run → ¬ OutputFailed run → IsDone r)
    (files : run.store_now.files ≡ run.store.files) (reads : (p : Part) → 5 ≤ number p → run.store_now.reads p ≡ run.store.reads p) (input : run.input_now ≡ run.input) where
  pub decoded_by : Decoded base run
  decoded_by = record {
    done = λ c stands end. put_when_done r _ _ c (sym is ∙ end) (content c stands);
    prefix = λ c stands. put_grew r _ _ c (content c stands);
    silent = λ end. silent (err_by r _ (sym is ∙ end));
    bounded = bounded;
    early = λ end. early (err_by r _ (sym is ∙ end));
    cause = subst (λ (s : Status). IfStopped s (DecodeStops (StoreFailed run) (OutputFailed run) run.store.files base)) (sym is) (stopped_by _ r cause);
    not_built = λ told none. unless_by run r _ is (not_built told none);
    complete = λ c stands no_store no_output. done_or run r is (complete c stands no_store no_output);
    files = files;
    reads = reads;
    input = input;
  }
