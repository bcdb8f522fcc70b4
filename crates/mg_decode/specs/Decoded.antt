-- What a run of `decode NAME` does.
use Rattle.std.specs.Prelude.{◌≡◌, ◌⊎◌, ◌≤◌, ℕ, List, IsSome, length}
use Rattle.std.specs.declared.option.Option.{Option}
use Rattle.std.specs.declared.result.Result.{Result}
use Rattle.mg_dev.specs.Files.{Files, Reads, bytes_at}
use Rattle.mg_dev.specs.Moments.{SinkAt, SourceAt, sink_at, store_at}
use Rattle.mg_dev.specs.Names.{full_name, number}
use Rattle.mg_dev.specs.Streams.{appended, GrewByPrefix}
use Rattle.mg_dev.specs.declared.part.Part.{Part}
use Rattle.mg_dev.specs.declared.part.Part.TheVariants as part
use Rattle.mg_dev.specs.declared.fault.Fault.{Fault}
use Rattle.mg_dev.specs.declared.fault.Fault.TheVariants.{NotBuilt, Memory}
use Rattle.mg_dev.specs.declared.status.Status.TheVariants.{Done}
use Rattle.mg_defs.specs.Heads.{Head, IsHead}
use Rattle.mg_layout.specs.Stands.{HasNoHead, Stands}
use Rattle.mg_decode.specs.Outcomes.{DecodeStops, LacksEarly}
use Rattle.mg_dev.specs.Runs.{IfStopped, Run, StoreFailed, OutputFailed, SaysNothing, KeepsFiles, Stops, StopsUnless, status_of}

-- some bytes were written, so many at most
pub record GrewAtMost (old new : Option (List ℕ)) (most : ℕ) : Type 0 where
  pub bytes : List ℕ
  pub told : new ≡ appended old bytes
  pub few : length bytes ≤ most

-- no more bytes were written than a head of these files tells of the collection, and none where they have no head
pub record WithinHead (files : Option Files) (base : List ℕ) (old new : Option (List ℕ)) : Type 0 where
  pub told : (head : Head) → IsHead 1 2 (bytes_at files (full_name base part.Head)) head →
      GrewAtMost old new head.collection
  pub none : ((head : Head) → ¬ IsHead 1 2 (bytes_at files (full_name base part.Head)) head) → new ≡ old

-- of each collection that the files of this name stand for
pub record Decoded (base : List ℕ) (run : Run) : Type 0 where
  -- status 0: the collection is printed
  pub done : (collection : List ℕ) → Stands run.store.files base collection → run.status ≡ Done
      → run.out_now.written ≡ appended run.out.written collection
  -- every status: a prefix of it is printed, and nothing after status 5
  pub prefix : (collection : List ℕ) → Stands run.store.files base collection →
      GrewByPrefix run.out.written run.out_now.written collection
  pub silent : Stops run NotBuilt → SaysNothing run
  -- whatever the files hold: no more is printed than their head tells of the collection
  pub bounded : IsSome run.store.files → WithinHead run.store.files base run.out.written run.out_now.written
  -- the cause of every other status; 5 comes exactly where it has it, unless the store fails or memory is wanting
  pub cause : IfStopped run.status (DecodeStops (StoreFailed run) (OutputFailed run) run.store.files base)
  pub not_built : IsSome run.store.files → HasNoHead run.store.files base → StopsUnless run NotBuilt
  -- want of memory of its own comes before a page of Text is read and anything is printed
  pub early : Stops run Memory → LacksEarly run.store.reads run.store_now.reads run.out run.out_now
  -- where the files stand and no device fails, it is done, or memory is wanting
  pub complete : (collection : List ℕ) → Stands run.store.files base collection → ¬ StoreFailed run → ¬ OutputFailed run
      → (run.status ≡ Done) ⊎ Stops run Memory
  -- no file changes; no part is read but the head, the models, the text and its places, nor is the input
  pub files : KeepsFiles run
  pub reads : (p : Part) → 5 ≤ number p → run.store_now.reads p ≡ run.store.reads p
  pub input : run.input_now ≡ run.input

-- a run that ends with this answer decodes, by what the store and the sink tell before the call and after it, whatever its input is, which is not read, and its error output
abbrev pub DecodesSet : {X Y T : Type 0} → List ℕ → (X → Option Files) → (X → Reads) → (X → ℕ) → X → X →
    (Y → Option (List ℕ)) → (Y → ℕ) → (Y → ℕ) → Y → Y → Result T Fault → Type 0
DecodesSet base files reads faults store store_now written failures lacks out out_now result =
    (input : SourceAt) (err err_now : SinkAt) → Decoded base (record {
      store = store_at files reads faults store;
      store_now = store_at files reads faults store_now;
      input = input;
      input_now = input;
      out = sink_at written failures lacks out;
      out_now = sink_at written failures lacks out_now;
      err = err;
      err_now = err_now;
      status = status_of result;
    })
