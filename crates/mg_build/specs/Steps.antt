-- What the steps of a build do, told of the store before them and after them.
use Rattle.std.specs.Prelude.{◌≡◌, ◌<◌, ◌≤◌, ◌^◌, ℕ, List, [], IfErr, OnOk, None, Some}
use Rattle.std.specs.Option.{IsSome}
use Rattle.std.specs.declared.result.Result.{Result}
use Rattle.mg_bits.specs.Pages.{Fits, Looked, Paging, SameFile}
use Rattle.mg_dev.specs.Files.{bytes_at, file_at}
use Rattle.mg_dev.specs.Moments.{StoreAt, StoreRose}
use Rattle.mg_dev.specs.Names.{full_name}
use Rattle.mg_dev.specs.Runs.{status_of}
use Rattle.mg_dev.specs.declared.fault.Fault.{Fault}
use Rattle.mg_dev.specs.declared.part.Part.TheVariants as part
use Rattle.mg_make.specs.Outcomes.{HasSummaryOf}
use Rattle.mg_make.specs.Plans.{Plan}
use Rattle.mg_make.specs.Putting.{OthersSame, Putting}
use Rattle.mg_make.specs.Sets.{WritesSet}
use Rattle.mg_make.specs.declared.summary.Summary.{Summary}
use Rattle.mg_build.specs.Building.{IsPlanAt, IsPlanned, PassStops, TellsRead, TellsTwoReadings, WriteStops}
use Rattle.mg_build.specs.Made.{Made}
use Rattle.mg_build.specs.Sources.{ByteStops, ReadsPages, Sourcing, TellsSize, TurnsTo}

-- A call turns to the page of a place, in a collection that had so many bytes when it was opened.
pub record TurnsPage {T : Type 0} (at size : ℕ) (feed feed_now : Paging) (store store_now : StoreAt)
    (result : Result T Fault) : Type 0 where
  -- the page that is held is one of the same file
  pub fits : Fits feed_now store_now.files
  pub file : SameFile feed feed_now
  -- at `Ok` the page of the place is held, and it was read if another one was held before
  pub turned : OnOk result
      (TurnsTo at feed.held feed_now.held (store.reads part.Plain) (store_now.reads part.Plain))
  -- the cause of each refusal
  pub refused : IfErr result (ByteStops (StoreRose store store_now) store.files feed.name size)
  -- a change is told exactly: the file ended before its size
  pub tells : IfErr result (TellsSize size)
  -- no file changes, and only the collection is read
  pub looked : Looked part.Plain store.files store_now.files store.reads store_now.reads
      store.faults store_now.faults

-- The first pass counts the bytes of a collection.
pub record CountsSource {T : Type 0} (source source_now : Sourcing) (store store_now : StoreAt)
    (result : Result T Fault) : Type 0 where
  -- the page that is held is one of the same file, whose size is kept
  pub fits : Fits source_now.feed store_now.files
  pub file : SameFile source.feed source_now.feed
  pub size : source_now.size ≡ source.size
  -- the file has fewer bytes than that
  pub small : source.size < 2 ^ 32
  -- at `Ok` each page was read, if none was held before
  pub whole : source.feed.held ≡ None →
      OnOk result (ReadsPages source.size (store.reads part.Plain) (store_now.reads part.Plain))
  -- the cause of each refusal
  pub refused : IfErr result
      (PassStops (StoreRose store store_now) store.files source.feed.name source.size)
  -- a change is told exactly: the file ended before its size
  pub tells : IfErr result (TellsSize source.size)
  -- no file changes, and only the collection is read
  pub looked : Looked part.Plain store.files store_now.files store.reads store_now.reads
      store.faults store_now.faults

-- A writer goes on with its set.
pub record WritesOn (writer writer_now : Putting) (store store_now : StoreAt) : Type 0 where
  -- its base, its plan and the size of its pool stay
  pub base : writer_now.base ≡ writer.base
  pub plan : writer_now.plan ≡ writer.plan
  pub limit : writer_now.limit ≡ writer.limit
  -- the head is there and empty, and files that are no part of the set stay
  pub head : IsSome store.files →
      file_at store_now.files (full_name writer.base part.Head) ≡ Some []
  pub others : OthersSame writer.base store.files store_now.files
  -- the counts of reads and of failures never fall
  pub plain : store.reads part.Plain ≤ store_now.reads part.Plain
  pub later : store.faults ≤ store_now.faults

-- The second pass writes the set of a collection, by a plan and with a pool of so many bytes.
pub record WritesSource (plan : Plan) (limit : ℕ) (base : List ℕ) (source : Sourcing) (store store_now : StoreAt)
    (result : Result Summary Fault) : Type 0 where
  -- it is the set of the bytes whose plan it is
  pub written : WritesSet (IsPlanned plan store.files source) limit base store store_now result
  -- the count of reads never falls
  pub plain : store.reads part.Plain ≤ store_now.reads part.Plain
  -- the cause of each refusal
  pub refused : IfErr result
      (WriteStops (StoreRose store store_now) (IsPlanAt plan store.files source))
  -- a change is told exactly
  pub tells : IfErr result (TellsRead plan store.files source.feed.name source.size)

-- Both passes make the set of the collection of a name, with a pool of so many bytes.
pub record BuildsSet (name base : List ℕ) (budget : ℕ) (store store_now : StoreAt)
    (result : Result Summary Fault) : Type 0 where
  -- what is made, and when
  pub made : Made name base budget store store_now (status_of result)
  -- at `Ok` the summary has the numbers of the collection
  pub summary : IsSome store.files → HasSummaryOf budget result (bytes_at store.files name)
  -- a change is told exactly
  pub tells : IfErr result (TellsTwoReadings store.files name)
  -- the count of failures never falls
  pub later : store.faults ≤ store_now.faults
