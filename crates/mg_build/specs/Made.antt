-- What a build does to its store, and why it stops.
use Rattle.std.specs.Prelude.{◌≡◌, ◌≢◌, ◌⊎◌, ◌<◌, ◌≤◌, ◌+◌, ◌/◌, ℕ, List, [], length, Some, None, IsSome}
use Rattle.std.specs.declared.option.Option.{Option}
use Rattle.mg_dev.specs.Files.{Files, file_at, bytes_at}
use Rattle.mg_dev.specs.Moments.{StoreAt, StoreRose, KeptFiles}
use Rattle.mg_dev.specs.Names.{full_name}
use Rattle.mg_dev.specs.Runs.{IfStopped, StoppedFor}
use Rattle.mg_dev.specs.declared.part.Part.{Part}
use Rattle.mg_dev.specs.declared.part.Part.TheVariants as part
use Rattle.mg_dev.specs.declared.fault.Fault.{Fault}
use Rattle.mg_dev.specs.declared.fault.Fault.TheVariants.{NoCollection, TooLarge, TooManyDocuments, TooManyPieces, Memory, NameClash}
use Rattle.mg_dev.specs.declared.status.Status.{Status}
use Rattle.mg_dev.specs.declared.status.Status.TheVariants.{Done, Stopped}
use Rattle.mg_defs.specs.declared.Stream.{Stream}
use Rattle.mg_defs.specs.Limits.{version_2}
use Rattle.mg_defs.specs.WithinLimits.{IsWithinLimits}
use Rattle.mg_defs.specs.Marks.{PassesFirst, start, piece}
use Rattle.mg_defs.specs.Split as split
use Rattle.mg_defs.specs.Summaries.{run_cap}
use Rattle.mg_defs.specs.TextBits.{text_bits}
use Rattle.mg_layout.specs.Stands.{StandsIn}
use Rattle.mg_make.specs.Putting.{IsApart, OthersSame}
use Rattle.mg_build.specs.Building.{BuildStops}
use Rattle.mg_build.specs.Sources.{IsReadWhole}
use Rattle.mg_make.specs.Outcomes.{IsEarly, Left, most_bytes}

-- The files of this base are what a build of the collection with this budget makes.
pub record AreMade (files : Option Files) (base collection : List ℕ) (budget : ℕ) : Type 0 where
  pub stands : StandsIn 2 (run_cap budget) files base collection
  pub merge_a : file_at files (full_name base part.MergeA) ≡ Some []
  pub merge_b : file_at files (full_name base part.MergeB) ≡ Some []
  pub text : length (bytes_at files (full_name base part.Text)) ≤ text_bits collection / 8
      + length (split.documents collection)

-- of the collection of this name and the set of this base, by the store before the build and after it, and its status
pub record Made (name base : List ℕ) (budget : ℕ) (store store_now : StoreAt) (status : Status) : Type 0 where
  -- status 0: the files are made
  pub done : IsSome store.files → status ≡ Done → AreMade store_now.files base (bytes_at store.files name) budget
  -- after the statuses 7 to 10 and 13 no file has changed
  pub unchanged : (fault : Fault) → IsEarly fault → status ≡ Stopped fault → KeptFiles store store_now
  -- every status: a file changes only behind the first whole reading of the collection
  pub changed : ¬ KeptFiles store store_now → IsReadWhole (bytes_at store.files name) store.reads store_now.reads
  -- every status: all files are as before, or the set stands for none, or for this collection; no file but the set's changes
  pub left : IsSome store.files → Left base store.files store_now.files (bytes_at store.files name)
  pub others : OthersSame base store.files store_now.files
  -- the cause of every other status
  pub cause : IfStopped status (BuildStops (StoreRose store store_now) store.files name base)
  -- 13, 7, 8, 9 and 10 come exactly where they have it, in this order, all but 13 unless the store fails or memory is wanting
  pub clash : (p : Part) → p ≢ part.Plain → name ≡ full_name base p → status ≡ Stopped (NameClash p)
  pub missing : IsSome store.files → IsApart base name → file_at store.files name ≡ None →
      StoppedFor status NoCollection
  pub large : IsSome store.files → IsApart base name → most_bytes < length (bytes_at store.files name)
      → StoppedFor status (TooLarge (length (bytes_at store.files name)) most_bytes)
  pub documents : (bytes : List ℕ) → file_at store.files name ≡ Some bytes → IsApart base name →
      length bytes ≤ most_bytes
      → PassesFirst version_2 bytes start → StoppedFor status TooManyDocuments
  pub pieces : (bytes : List ℕ) (stream : Stream) (word : List ℕ) → file_at store.files name ≡ Some bytes →
      IsApart base name
      → length bytes ≤ most_bytes → PassesFirst version_2 bytes (piece stream word) →
      StoppedFor status (TooManyPieces stream)
  -- where nothing stands in its way and the store does not fail, it is done, or memory is wanting
  pub complete : (bytes : List ℕ) → file_at store.files name ≡ Some bytes → IsApart base name → IsWithinLimits 2 bytes
      → ¬ StoreRose store store_now → (status ≡ Done) ⊎ (status ≡ Stopped Memory)
