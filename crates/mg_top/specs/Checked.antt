-- What a run of `check NAME` does.
use Rattle.std.specs.Prelude.{◌≡◌, ◌⊎◌, ℕ, List, length, IsSome}
use Rattle.mg_dev.specs.Moments.{StoreAt, StoreRose, KeptFiles}
use Rattle.mg_dev.specs.Runs.{IfStopped, Run, StoppedFor}
use Rattle.mg_dev.specs.declared.bad.Bad.{Bad}
use Rattle.mg_dev.specs.declared.fault.Fault.TheVariants.{Damaged, StoreFault, NotBuilt, Memory}
use Rattle.mg_dev.specs.declared.status.Status.{Status}
use Rattle.mg_dev.specs.declared.status.Status.TheVariants.{Done, Stopped}
use Rattle.mg_defs.specs.Split.{documents}
use Rattle.mg_layout.specs.Stands.{HasNoHead, Stands}
use Rattle.mg_check.specs.Found.{CheckStops, IsDamagedSet}
use Rattle.mg_check.specs.Reads.{ReadsSet}
use Rattle.mg_top.specs.Ends.{CallsOnce, Prints}
use Rattle.mg_top.specs.Lines.{stands_line}

-- the line that is printed: how many documents and bytes the collection has
abbrev pub standing_line : List ℕ → List ℕ
standing_line collection = stands_line (length (documents collection)) (length collection)

-- it stopped for damage
abbrev pub StoppedForDamage : Status → Type 0
StoppedForDamage status = (bad : Bad) × (status ≡ Stopped (Damaged bad))

-- What a check finds: by the store before the call and after it, and the call's status.
pub record Finds (name : List ℕ) (store store_now : StoreAt) (status : Status) : Type 0 where
  -- status 0: the files stand for a collection
  pub stands : IsSome store.files → status ≡ Done → (collection : List ℕ) × Stands store.files name collection
  -- the cause of every other status
  pub cause : IfStopped status (CheckStops (StoreRose store store_now) store.files name)
  -- 6 comes exactly where there is a head and the files stand for none, and 5 exactly where there is none,
  -- unless the store fails or memory is wanting
  pub damaged : IsSome store.files → IsDamagedSet store.files name →
      StoppedForDamage status ⊎ (status ≡ Stopped StoreFault) ⊎ (status ≡ Stopped Memory)
  pub not_built : IsSome store.files → HasNoHead store.files name → StoppedFor status NotBuilt
  -- where the files stand and the store does not fail, it is done, or memory is wanting
  pub complete : (collection : List ℕ) → Stands store.files name collection → ¬ StoreRose store store_now
      → (status ≡ Done) ⊎ (status ≡ Stopped Memory)
  -- no file changes, and no part is read but those of a set
  pub files : KeptFiles store store_now
  pub unread : ReadsSet store.reads store_now.reads

pub record Checked (name : List ℕ) (run : Run) : Type 0 where
  -- the files stand or not, as `Finds` says by the store before the check and after it
  pub found : CallsOnce (Finds name run.store run.store_now) run
  -- where they stand for a collection a prefix of its line is printed, all of it at status 0
  pub prints : (collection : List ℕ) → Stands run.store.files name collection → Prints (standing_line collection) run
  -- the input is not read
  pub input : run.input_now ≡ run.input
