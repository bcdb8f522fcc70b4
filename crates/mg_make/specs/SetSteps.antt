-- What one step of a writer of a set does, told of the moments before it and after it.
use Rattle.std.specs.Prelude.{◌≡◌, ◌<◌, ◌≤◌, ◌^◌, ◌+◌, ◌++◌, ◌∷◌, ℕ, List, [], drop, length, sum, take, Err, IfErr, IfOk, Ok, OnOk, Some}
use Rattle.std.specs.Option.{IsSome}
use Rattle.std.specs.declared.option.Option.{Option}
use Rattle.std.specs.declared.result.Result.{Result}
use Rattle.mg_dev.specs.Causes.{Rose}
use Rattle.mg_dev.specs.Each.{ForEach}
use Rattle.mg_dev.specs.Files.{Files, Reads, SameReads, file_at}
use Rattle.mg_dev.specs.Names.{full_name}
use Rattle.mg_dev.specs.declared.fault.Fault.{Fault}
use Rattle.mg_dev.specs.declared.part.Part.TheVariants as part
use Rattle.mg_defs.specs.Heads.{IsWithin}
use Rattle.mg_layout.specs.HeadAnswers.{fields_of}
use Rattle.mg_layout.specs.declared.head.Head.{Head}
use Rattle.mg_index.specs.Steps.{ReadRuns}
use Rattle.mg_make.specs.Index.{HasPostPart, HasSkipPart, InvertedBy, OfIndex, WroteIndex}
use Rattle.mg_index.specs.Listing.{HasTermOfNone, ListStops, TellsTermOfNone}
use Rattle.mg_count.specs.Plans.{IsPlanOf, Plan}
use Rattle.mg_count.specs.Whole.{between}
use Rattle.mg_make.specs.Putting.{ForHanded, ForPut, HasHeadOf, HasPeakOf, HasPut, MakesHead, MakesReady, OthersSame, PlanStops, Putting}
use Rattle.mg_index.specs.Steps.{MergeStep}
use Rattle.mg_make.specs.Steps.{SortStep}
use Rattle.mg_make.specs.Changes.{TellsAtEnd, TellsChange}
use Rattle.mg_make.specs.Written.{SecondStops}
use Rattle.mg_make.specs.declared.inverter.Inverted.{Inverted}
use Rattle.mg_index.specs.declared.lists.Sizes.{Sizes}

-- one byte more is put, or why it is not
pub record ByteStep (old new : Putting) (byte : ℕ) (result : Result (Unit {0}) Fault)
    (files_before files_now : Option Files)
    (reads_before reads_now : Reads) (faults_before faults_now : ℕ) : Type 0 where
  -- when it is done, the byte stands behind all that were put before
  pub put : OnOk result ((fed : List ℕ) → HasPut old files_before fed → HasPut new files_now (fed ++ byte ∷ []))
  -- the base, the plan and the size of the pool stay
  pub base : new.base ≡ old.base
  pub plan : new.plan ≡ old.plan
  pub limit : new.limit ≡ old.limit
  -- the head is there and empty
  pub head : IsSome files_before → file_at files_now (full_name old.base part.Head) ≡ Some []
  -- files that are no part of the set stay
  pub others : OthersSame old.base files_before files_now
  -- no part was read
  pub reads : SameReads reads_before reads_now
  -- the faults never fall
  pub later : faults_before ≤ faults_now
  -- why it stops
  pub refused : IfErr result (λ fault. (fed more : List ℕ) → HasPut old files_before fed →
      length (fed ++ byte ∷ more) < 2 ^ 32
      → SecondStops (Rose faults_before faults_now) (IsPlanOf old.plan (fed ++ byte ∷ more)) fault)
  -- a change is told exactly
  pub tells : IfErr result (λ fault. (fed more : List ℕ) → HasPut old files_before fed →
      length (fed ++ byte ∷ more) < 2 ^ 32 → TellsChange old.plan (fed ++ byte ∷ more) fault)

-- bytes that go on the piece that is read stand behind all that were put, and no file is written
pub record WentOn (old new : Putting) (run : List ℕ) : Type 0 where
  pub put : (files : Option Files) (fed : List ℕ) → HasPut old files fed → HasPut new files (fed ++ run)
  -- the base, the plan and the size of the pool stay
  pub base : new.base ≡ old.base
  pub plan : new.plan ≡ old.plan
  pub limit : new.limit ≡ old.limit

-- one of these bytes, which come behind those that were put, is refused
pub record PutStopsAmong (old : Putting) (bytes : List ℕ) (files : Option Files) (store_rose : Type 0) (fault : Fault) :
    Type 0 where
  -- so many of them are put before it
  pub taken : ℕ
  pub within : taken < length bytes
  -- and stand
  pub middle : Putting
  pub files_then : Option Files
  pub put : (fed : List ℕ) → HasPut old files fed → HasPut middle files_then (fed ++ take taken bytes)
  -- it is refused, whatever follows it
  pub stops : (fed more : List ℕ) → HasPut old files fed →
      length (fed ++ (take (taken + 1) bytes ++ more)) < 2 ^ 32
      → SecondStops store_rose (IsPlanOf old.plan (fed ++ (take (taken + 1) bytes ++ more))) fault
  -- and a change is told exactly
  pub tells : (fed more : List ℕ) → HasPut old files fed →
      length (fed ++ (take (taken + 1) bytes ++ more)) < 2 ^ 32
      → TellsChange old.plan (fed ++ (take (taken + 1) bytes ++ more)) fault

-- more bytes are put, or why one of them is not
pub record SliceStep (old new : Putting) (bytes : List ℕ) (result : Result (Unit {0}) Fault)
    (files_before files_now : Option Files)
    (reads_before reads_now : Reads) (faults_before faults_now : ℕ) : Type 0 where
  -- when it is done, the bytes stand behind all that were put before
  pub put : OnOk result ((fed : List ℕ) → HasPut old files_before fed → HasPut new files_now (fed ++ bytes))
  -- the base, the plan and the size of the pool stay
  pub base : new.base ≡ old.base
  pub plan : new.plan ≡ old.plan
  pub limit : new.limit ≡ old.limit
  -- the head is there and empty
  pub head : IsSome files_before → file_at files_now (full_name old.base part.Head) ≡ Some []
  -- files that are no part of the set stay
  pub others : OthersSame old.base files_before files_now
  -- no part was read
  pub reads : SameReads reads_before reads_now
  -- the faults never fall
  pub later : faults_before ≤ faults_now
  -- why it stops
  pub refused : IfErr result (PutStopsAmong old bytes files_before (Rose faults_before faults_now))

-- the bytes behind a place are put up to another and with it, or why one of them is not
abbrev pub PieceStep : Putting → Putting → List ℕ → ℕ → Result ℕ Fault → Option Files → Option Files → Reads → Reads → ℕ → ℕ → Type 0
PieceStep old new bytes at (Ok next) files_before files_now reads_before reads_now faults_before faults_now =
    (at ≤ next) × (next < length bytes)
    × SliceStep old new (between (at + 1) (next + 1) bytes) (Ok tt) files_before files_now reads_before reads_now faults_before faults_now
PieceStep old new bytes at (Err fault) files_before files_now reads_before reads_now faults_before faults_now =
    SliceStep old new (drop (at + 1) bytes) (Err fault) files_before files_now reads_before reads_now faults_before faults_now

-- what follows the pass is written, with the head that belongs to it, or why it is not
pub record RestStep (plan : Plan) (limit size : ℕ) (base : List ℕ) (inverted : Inverted)
    (result : Result (Head × ℕ) Fault) (files_before files_now : Option Files)
    (reads_before reads_now : Reads) (faults_before faults_now : ℕ) : Type 0 where
  -- the head has room for its numbers
  pub within : IfOk result (λ made. IsWithin (fields_of made.0))
  -- it is that of the bytes for which the pass ended
  pub head : ForHanded plan limit base files_before inverted (MakesHead size plan limit files_before result)
  -- and so is the greatest use of the pool
  pub peak : ForHanded plan limit base files_before inverted
      (λ fed. IsPlanOf plan fed → HasPeakOf limit result fed)
  -- lists, lexicon and weights stand
  pub stand : ForHanded plan limit base files_before inverted
      (λ fed. IsSome files_before → IsPlanOf plan fed → WroteIndex files_now base result fed)
  -- which files are written, and what is read
  pub step : SortStep OfIndex base files_before files_now reads_before reads_now faults_before faults_now
  -- why it stops
  pub refused : IfErr result (λ fault. ForHanded plan limit base files_before inverted
      (PlanStops (Rose faults_before faults_now) plan files_before fault))
  -- a change is told exactly
  pub tells : IfErr result (λ fault. ForHanded plan limit base files_before inverted (λ fed. TellsAtEnd plan fed fault))

-- lists, lexicon and weights are written of what was inverted, or why they are not
pub record WeighedStep (p : Plan) (inverted inverted_now : Inverted) (base : List ℕ) (result : Result Sizes Fault)
    (files_before files_now : Option Files)
    (reads_before reads_now : Reads) (faults_before faults_now : ℕ) : Type 0 where
  -- they are those of the collection of which it is
  pub stand : ForEach (InvertedBy p inverted files_before) (WroteIndex files_now base result)
  -- Post has as many bytes as it has there
  pub post_bytes : ForEach (InvertedBy p inverted files_before) (HasPostPart result)
  -- there are as many skip entries as there
  pub skip_count : ForEach (InvertedBy p inverted files_before) (HasSkipPart result)
  -- over any store: there are no more of them than postings were counted
  pub few : IfOk result (λ sizes. sizes.skip_count ≤ sum inverted.counts.docs)
  -- which files are written, and what is read
  pub step : MergeStep OfIndex base inverted.merge inverted_now.merge files_before files_now reads_before reads_now
      faults_before faults_now
  -- why it stops
  pub refused : IfErr result (λ fault. (collection : List ℕ) →
      ListStops (Rose faults_before faults_now) (InvertedBy p inverted files_before collection) fault)
  -- a change is told exactly: no document has one of the terms
  pub tells : IfErr result (TellsTermOfNone (HasTermOfNone inverted.counts.docs))

-- all parts but the head are written, or why they are not
pub record PartsStep (w : Putting) (result : Result (Head × ℕ) Fault) (files_before files_now : Option Files)
    (reads_before reads_now : Reads) (faults_before faults_now : ℕ) : Type 0 where
  -- they are those of the bytes that were put
  pub ready : ForPut w files_before (MakesReady w files_now result)
  -- the head has room for its numbers
  pub within : IfOk result (λ made. IsWithin (fields_of made.0))
  -- it is that of these bytes
  pub head : ForPut w files_before (HasHeadOf w.plan w.limit result)
  -- and so is the greatest use of the pool
  pub peak : (fed : List ℕ) → HasPut w files_before fed → IsPlanOf w.plan fed → HasPeakOf w.limit result fed
  -- the part of the head is there and empty
  pub gone : IsSome files_before → file_at files_now (full_name w.base part.Head) ≡ Some []
  -- files that are no part of the set stay
  pub others : OthersSame w.base files_before files_now
  -- no part was read but those of the runs
  pub reads : ReadRuns reads_before reads_now
  -- the faults never fall
  pub later : faults_before ≤ faults_now
  -- why it stops
  pub refused : IfErr result (λ fault. (fed : List ℕ) → HasPut w files_before fed →
      PlanStops (Rose faults_before faults_now) w.plan files_before fault fed)
  -- a change is told exactly
  pub tells : IfErr result (λ fault. (fed : List ℕ) → HasPut w files_before fed → TellsAtEnd w.plan fed fault)
