-- What making a set anew does to its store, and why it stops.
use Rattle.std.specs.Prelude.{◌≡◌, ◌≢◌, ◌⊎◌, ℕ, List, IsSome}
use Rattle.mg_defs.specs.Heads.{Head}
use Rattle.mg_dev.specs.Moments.{StoreAt, StoreRose, KeptFiles}
use Rattle.mg_dev.specs.Runs.{IfStopped, StoppedFor}
use Rattle.mg_dev.specs.declared.fault.Fault.{Fault}
use Rattle.mg_dev.specs.declared.fault.Fault.TheVariants.{NotBuilt, Memory, SameName}
use Rattle.mg_dev.specs.declared.status.Status.{Status}
use Rattle.mg_dev.specs.declared.status.Status.TheVariants.{Done, Stopped}
use Rattle.mg_layout.specs.Stands.{HasNoHead, Stands, StandsIn}
use Rattle.mg_make.specs.Putting.{OthersSame}
use Rattle.mg_make.specs.Outcomes.{AreMadeAnew, Left}
use Rattle.mg_migrate.specs.Migrating.{ComesFirst, HasBegun, IsTakenOver, MigrateStops}
use Rattle.mg_migrate.specs.Sizes.{HasHeadIn, HasSizesOf, IsSized}

-- The set of this name has a head, six of its parts have the sizes that follow from it, and its head and parts are taken over.
abbrev pub TakesOver : List ℕ → List ℕ → StoreAt → StoreAt → Type 0
TakesOver name new store store_now =
    (head : Head) × IsSized head store.files name × IsTakenOver head name new store.files store_now.files

-- It has such a head, and that of the new set was begun.
abbrev pub BeginsHead : List ℕ → List ℕ → StoreAt → StoreAt → Type 0
BeginsHead name new store store_now = (head : Head) × IsSized head store.files name × HasBegun head store_now.files new

-- of each collection that the set of this name stands for, in either version, by the store before the call and after it, and its status
pub record MadeAnew (name new : List ℕ) (store store_now : StoreAt) (status : Status) : Type 0 where
  -- status 0: the new set is made
  pub done : (version cap : ℕ) (collection : List ℕ) → StandsIn version cap store.files name collection → status ≡ Done
      → AreMadeAnew store_now.files new collection cap
  -- status 0, whatever the old set's bytes mean: all is taken over
  pub copied : IsSome store.files → status ≡ Done → TakesOver name new store store_now
  -- where a size is not the one that follows from the head no file has changed
  pub sizes : (head : Head) → IsSome store.files → HasHeadIn store.files name head → ¬ HasSizesOf head store.files name
      → KeptFiles store store_now
  -- after the statuses 16 and 5 no file has changed
  pub unchanged : (fault : Fault) → ComesFirst fault → status ≡ Stopped fault → KeptFiles store store_now
  -- every status: all files are as before, or the new set stands for none, or for this collection; no file but its own changes
  pub left : (collection : List ℕ) → Stands store.files name collection →
      Left new store.files store_now.files collection
  pub others : OthersSame new store.files store_now.files
  -- every status, whatever the old set's bytes mean: all files are as before, or the new head was begun
  pub begun : IsSome store.files → KeptFiles store store_now ⊎ BeginsHead name new store store_now
  -- the cause of every other status
  pub cause : IfStopped status (MigrateStops (StoreRose store store_now) store.files name new)
  -- 16 comes exactly where it has it, and behind it 5, unless the store fails or memory is wanting
  pub same : new ≡ name → status ≡ Stopped SameName
  pub not_built : IsSome store.files → new ≢ name → HasNoHead store.files name → StoppedFor status NotBuilt
  -- where the set stands, the names differ and the store does not fail, it is done, or memory is wanting
  pub complete : (collection : List ℕ) → Stands store.files name collection → new ≢ name → ¬ StoreRose store store_now
      → (status ≡ Done) ⊎ (status ≡ Stopped Memory)
