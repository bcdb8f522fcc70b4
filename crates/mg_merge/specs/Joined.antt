-- What a merge does to its store, and why it stops.
use Rattle.std.specs.Prelude.{◌≡◌, ◌≢◌, ◌⊎◌, ◌<◌, ◌≤◌, ℕ, List, length, IsSome}
use Rattle.mg_dev.specs.Moments.{StoreAt, StoreRose, KeptFiles}
use Rattle.mg_dev.specs.Runs.{IfStopped, StoppedFor}
use Rattle.mg_dev.specs.declared.fault.Fault.{Fault}
use Rattle.mg_dev.specs.declared.fault.Fault.TheVariants.{NotBuilt, TooLarge, TooManyDocuments, TooManyPieces, Memory, SameName}
use Rattle.mg_dev.specs.declared.status.Status.{Status}
use Rattle.mg_dev.specs.declared.status.Status.TheVariants.{Done, Stopped}
use Rattle.mg_defs.specs.declared.Stream.{Stream}
use Rattle.mg_defs.specs.Join.{join}
use Rattle.mg_defs.specs.Limits.{version_2}
use Rattle.mg_defs.specs.WithinLimits.{IsWithinLimits}
use Rattle.mg_defs.specs.Marks.{PassesFirst, start, piece}
use Rattle.mg_layout.specs.Stands.{HasNoHead, Stands, StandsIn}
use Rattle.mg_make.specs.Putting.{OthersSame}
use Rattle.mg_make.specs.Outcomes.{AreMadeAnew, IsEarly, Left, most_bytes}
use Rattle.mg_merge.specs.Looks.{reads_index, reads_outside}
use Rattle.mg_merge.specs.Merging.{BothStand, IsSizeByHeads, MergeStops}

-- of each two collections that the sets of these names stand for, in either version, by the store before the merge and after it, and its status
pub record Joined (first second new : List ℕ) (store store_now : StoreAt) (status : Status) : Type 0 where
  -- status 0: the new set is made of both in one, with as many occurrences to a run as the first has
  pub done : (version cap : ℕ) (a b : List ℕ) → StandsIn version cap store.files first a → Stands store.files second b →
      status ≡ Done
      → AreMadeAnew store_now.files new (join a b) cap
  -- after the statuses 16, 5 and 8 to 10 no file has changed
  pub unchanged : (fault : Fault) → IsEarly fault → status ≡ Stopped fault → KeptFiles store store_now
  -- and of the two sets no part was read but the heads, the models and the texts
  pub unread : (fault : Fault) → IsEarly fault → status ≡ Stopped fault →
      reads_outside store_now.reads ≡ reads_outside store.reads
  -- every status: no part was read but the heads, the models, the texts and the working files
  pub index : reads_index store_now.reads ≡ reads_index store.reads
  -- every status: all files are as before, or the new set stands for none, or for both collections in one; no file but its own changes
  pub left : (a b : List ℕ) → BothStand store.files first second a b → Left new store.files store_now.files (join a b)
  pub others : OthersSame new store.files store_now.files
  -- the cause of every other status
  pub cause : IfStopped status (MergeStops (StoreRose store store_now) store.files first second new)
  -- 16 comes exactly where it has it, and behind it 5, 8 and the earlier of 9 and 10, unless the store fails or memory is wanting
  pub same : (new ≡ first) ⊎ (new ≡ second) → status ≡ Stopped SameName
  pub missing : IsSome store.files → new ≢ first → new ≢ second → HasNoHead store.files first
      ⊎ HasNoHead store.files second → StoppedFor status NotBuilt
  pub large : (size : ℕ) → IsSome store.files → new ≢ first → new ≢ second →
      IsSizeByHeads store.files first second size → most_bytes < size
      → StoppedFor status (TooLarge size most_bytes)
  pub documents : (a b : List ℕ) → BothStand store.files first second a b → new ≢ first → new ≢ second →
      length (join a b) ≤ most_bytes
      → PassesFirst version_2 (join a b) start → StoppedFor status TooManyDocuments
  pub pieces : (a b : List ℕ) (stream : Stream) (word : List ℕ) → BothStand store.files first second a b → new ≢ first →
      new ≢ second
      → length (join a b) ≤ most_bytes → PassesFirst version_2 (join a b) (piece stream word) →
      StoppedFor status (TooManyPieces stream)
  -- where both sets stand, the names differ, both are within the limits in one and the store does not fail, it is done, or memory is wanting
  pub complete : (a b : List ℕ) → BothStand store.files first second a b → new ≢ first → new ≢ second →
      IsWithinLimits 2 (join a b)
      → ¬ StoreRose store store_now → (status ≡ Done) ⊎ (status ≡ Stopped Memory)
