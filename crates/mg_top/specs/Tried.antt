-- What a run of `trial SEED DOCS` does: it works in a store of its own.
use Rattle.std.specs.Prelude.{◌≡◌, ◌⊎◌, ◌<◌, ◌≤◌, ℕ, List, length}
use Rattle.mg_dev.specs.Streams.{appended, GrewByPrefix}
use Rattle.mg_dev.specs.declared.fault.Fault.TheVariants.{TooLarge, TooManyDocuments, TooManyPieces, Memory}
use Rattle.mg_dev.specs.declared.status.Status.TheVariants.{Done}
use Rattle.mg_defs.specs.declared.Stream.{Stream}
use Rattle.mg_defs.specs.Generator.{made_collection}
use Rattle.mg_defs.specs.Limits.{held_bytes, version_2}
use Rattle.mg_defs.specs.WithinLimits.{IsWithinLimits}
use Rattle.mg_defs.specs.Marks.{PassesFirst, start, piece}
use Rattle.mg_defs.specs.Summaries.{trial_text}
use Rattle.mg_dev.specs.Runs.{IfStopped, Run, OutputFailed, Stops}
use Rattle.mg_top.specs.Ends.{SilentOnOutput}
use Rattle.mg_top.specs.Trials.{TrialStops}

-- of the collection that is made from the seed
pub record Tried (seed docs : ℕ) (run : Run) : Type 0 where
  -- status 0: the seven lines are printed
  pub done : run.status ≡ Done → run.out_now.written ≡ appended run.out.written (trial_text seed docs)
  -- every status: a prefix of them is printed; after another status than 0, 4 and 12 nothing, nor after 12 unless it was the output that lacked memory
  pub prefix : GrewByPrefix run.out.written run.out_now.written (trial_text seed docs)
  pub silent : IfStopped run.status (SilentOnOutput run)
  -- the cause of every other status, which is 4, 8, 9, 10 or 12
  pub cause : IfStopped run.status (TrialStops ⊥ (OutputFailed run) (made_collection seed docs))
  -- 8, 9 and 10 come exactly where they have it, in this order, unless memory is wanting
  pub large : held_bytes < length (made_collection seed docs) →
      Stops run (TooLarge (length (made_collection seed docs)) held_bytes) ⊎ Stops run Memory
  pub documents : length (made_collection seed docs) ≤ held_bytes →
      PassesFirst version_2 (made_collection seed docs) start → Stops run TooManyDocuments ⊎ Stops run Memory
  pub pieces : (stream : Stream) (word : List ℕ) → length (made_collection seed docs) ≤ held_bytes
      → PassesFirst version_2 (made_collection seed docs) (piece stream word) →
      Stops run (TooManyPieces stream) ⊎ Stops run Memory
  -- where the collection is within the limits and the output does not fail, it is done, or memory is wanting
  pub complete : length (made_collection seed docs) ≤ held_bytes → IsWithinLimits 2 (made_collection seed docs) →
      ¬ OutputFailed run → (run.status ≡ Done) ⊎ Stops run Memory
  -- neither the store nor the input is touched
  pub store : run.store_now ≡ run.store
  pub input : run.input_now ≡ run.input
