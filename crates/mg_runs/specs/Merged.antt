-- What a merge of runs does, told of the moments before it and after it.
use Rattle.std.specs.Prelude.{◌≡◌, ◌≤◌, ◌+◌, ◌*◌, ◌%◌, ◌^◌, ◌++◌, ℕ, List, [], ◌∷◌, length, max, IfErr, IfOk, OnOk}
use Rattle.std.specs.Option.{IsSome}
use Rattle.std.specs.declared.option.Option.{Option}
use Rattle.std.specs.declared.result.Result.{Result}
use Rattle.mg_dev.specs.Causes.{HasPutCause}
use Rattle.mg_dev.specs.Files.{Files, Reads, bytes_at}
use Rattle.mg_dev.specs.Names.{full_name}
use Rattle.mg_dev.specs.PartCauses.{HasPartCause}
use Rattle.mg_dev.specs.declared.device.PutErr.{PutErr}
use Rattle.mg_dev.specs.declared.part.Part.TheVariants.{Run}
use Rattle.mg_dev.specs.declared.part_err.PartErr.{PartErr}
use Rattle.mg_defs.specs.Bits.{filled}
use Rattle.mg_defs.specs.Heads.{run_count}
use Rattle.mg_defs.specs.Postings.{gathered, term_postings}
use Rattle.mg_defs.specs.RunBits.{run_bits}
use Rattle.mg_defs.specs.Runs.{runs_of}
use Rattle.mg_defs.specs.declared.TermPosting.{TermPosting}
use Rattle.mg_bits.specs.BitWriting.{BitWriting, Holds, WroteBits}
use Rattle.mg_bits.specs.Writer.{AreBytes, WroteTo}
use Rattle.mg_runs.specs.Cursors.{NoDamage}
use Rattle.mg_runs.specs.Damages.{NamesItsPart}
use Rattle.mg_runs.specs.Fed.{ForFed, HasRunBits, HasRunBytes, Inverting, cap_of, peak_of, starts}
use Rattle.mg_runs.specs.Left.{IsMerging, Merging, postings_left}
use Rattle.mg_runs.specs.Pooled.{Pooled}
use Rattle.mg_runs.specs.Reading.{ForRound, RoundTells}
use Rattle.mg_runs.specs.Steps.{LookStep, WorkStep}
use Rattle.mg_runs.specs.declared.round.Round.{Round}

-- the runs of what was taken are merged, at most so many at a time
pub record RunsMerged (width : ℕ) (old : Inverting) (result : Result Merging PartErr)
    (files_before files_now : Option Files)
    (reads_before reads_now : Reads) (faults_before faults_now : ℕ) : Type 0 where
  -- all postings of what was taken are left
  pub left : ForFed old files_before (λ fed. IfOk result (λ merge. IsMerging merge files_now (term_postings fed)))
  -- Run has the first runs, in bits and in bytes
  pub run : IsSome files_before → ForFed old files_before (λ fed. OnOk result (HasRunBits old files_now fed))
  pub run_bytes : IsSome files_before → ForFed old files_before (λ fed. OnOk result (HasRunBytes old files_now fed))
  -- how many these are
  pub runs : ForFed old files_before (λ fed.
      IfOk result (λ merge. merge.runs ≡ run_count (length fed) (cap_of old.pool)))
  -- the greatest use of the pool
  pub peak : ForFed old files_before (λ fed.
      IfOk result (λ merge. merge.peak ≡ peak_of (length fed) (cap_of old.pool) width))
  -- a loop over what is left ends
  pub few : IfOk result (λ merge. postings_left merge ≤ 2 ^ 56)
  -- the base stays
  pub base : IfOk result (λ merge. merge.base ≡ old.base)
  -- where the files are told, there is no damage
  pub undamaged : IsSome files_before → NoDamage result
  -- nothing but the parts of the runs was written or read
  pub step : WorkStep old.base result files_before files_now reads_before reads_now faults_before faults_now

-- a writer that stands for its file may put a run
pub record MayEnd (w : BitWriting) (files : Option Files) : Type 0 where
  pub holds : Holds w files
  pub place : w.place ≤ 2 ^ 62
  pub whole : w.place % 8 ≡ 0

-- the entries of a pool are written as a run, and the pool is emptied
pub record Spilled {T : Type 0} (pool_old pool_new : Pooled) (old new : BitWriting) (result : Result T PutErr)
    (files_before files_now : Option Files)
    (reads_before reads_now : Reads) (faults_before faults_now : ℕ) : Type 0 where
  -- the writer stands for its file, at a byte
  pub holds : OnOk result (Holds new files_now)
  pub whole : OnOk result (new.place % 8 ≡ 0)
  -- the run is written, in no more than so many bits
  pub bits : OnOk result (WroteBits old new files_before files_now (filled (run_bits (gathered pool_old.entries))))
  pub place : OnOk result (new.place ≤ old.place + 128 + 256 * length pool_old.entries)
  -- the pool is empty, and what it may hold and held is as before
  pub empty : OnOk result (pool_new.entries ≡ [])
  pub slots : OnOk result (pool_old.slots ≡ [] → pool_new.slots ≡ [])
  pub peak : pool_new.peak ≡ pool_old.peak
  pub limit : pool_new.limit ≡ pool_old.limit
  -- no other file is written, and nothing is read
  pub name : new.name ≡ old.name
  pub wrote : WroteTo old.name files_before files_now reads_before reads_now
  -- a refusal has a cause
  pub cause : HasPutCause faults_before faults_now result

-- the same, and the run's place is kept
pub record EndsRun {T : Type 0} (pool_old pool_new : Pooled) (old new : BitWriting) (places_old places_new : List ℕ)
    (result : Result T PutErr) (files_before files_now : Option Files)
    (reads_before reads_now : Reads) (faults_before faults_now : ℕ) : Type 0 where
  -- the run is written, and the pool is emptied
  pub spilled : Spilled pool_old pool_new old new result files_before files_now reads_before reads_now
      faults_before faults_now
  -- the run began where the writer stood
  pub places : OnOk result (places_new ≡ places_old ++ old.place ∷ [])

-- what was taken is all in runs, and their part is ended
pub record RunsClosed {T : Type 0} (old new : Inverting) (result : Result T PutErr) (files_before files_now : Option Files)
    (reads_before reads_now : Reads) (faults_before faults_now : ℕ) : Type 0 where
  -- Run has them, and bytes
  pub run : IsSome files_before → ForFed old files_before (λ fed. OnOk result (HasRunBits old files_now fed))
  pub bytes : IsSome files_before → OnOk result (AreBytes (bytes_at files_now (full_name old.base Run)))
  -- where they begin
  pub places : ForFed old files_before (λ fed. OnOk result (new.places ≡ starts 0 (runs_of (cap_of old.pool) fed)))
  -- the pool is empty, and what it may hold and held is as before
  pub entries : OnOk result (new.pool.entries ≡ [])
  pub limit : new.pool.limit ≡ old.pool.limit
  pub peak : new.pool.peak ≡ old.pool.peak
  -- the base stays
  pub base : new.base ≡ old.base
  -- nothing else was written
  pub wrote : WroteTo (full_name old.base Run) files_before files_now reads_before reads_now
  -- a refusal has a cause
  pub cause : HasPutCause faults_before faults_now result

-- what was taken is all in runs of Run
pub record RunsFinished (old : Inverting) (result : Result Round PartErr) (files_before files_now : Option Files)
    (reads_before reads_now : Reads) (faults_before faults_now : ℕ) : Type 0 where
  -- Run has them, and bytes
  pub run : IsSome files_before → ForFed old files_before (λ fed. OnOk result (HasRunBits old files_now fed))
  pub bytes : IsSome files_before → OnOk result (AreBytes (bytes_at files_now (full_name old.base Run)))
  -- where they begin
  pub places : ForFed old files_before (λ fed. IfOk result (λ round.
      round.places.items ≡ starts 0 (runs_of (cap_of old.pool) fed)))
  -- nothing is read, so there is no damage
  pub undamaged : NoDamage result
  -- the pool is empty
  pub entries : IfOk result (λ round. round.pool.entries ≡ [])
  pub limit : IfOk result (λ round. round.pool.limit ≡ old.pool.limit)
  pub peak : IfOk result (λ round. round.pool.peak ≡ old.pool.peak)
  -- the runs stand in Run
  pub base : IfOk result (λ round. round.file.base.now ≡ old.base)
  pub part : IfOk result (λ round. round.file.part ≡ Run)
  -- nothing else was written
  pub wrote : WroteTo (full_name old.base Run) files_before files_now reads_before reads_now
  -- why it stops
  pub cause : HasPartCause faults_before faults_now result
  pub names : IfErr result NamesItsPart

-- the runs of a last round are opened
pub record MergeOpened (old : Round) (count : ℕ) (result : Result Merging PartErr)
    (files_before files_now : Option Files)
    (reads_before reads_now : Reads) (faults_before faults_now : ℕ) : Type 0 where
  -- all their postings are left
  pub left : (whole : List TermPosting) → RoundTells old files_before whole →
      IfOk result (λ merge. IsMerging merge files_now whole)
  -- where the file has such runs, there is no damage
  pub undamaged : ForRound old files_before (λ _. NoDamage result)
  -- a loop over what is left ends
  pub few : IfOk result (λ merge. postings_left merge ≤ 2 ^ 56)
  -- what the merge tells
  pub base : IfOk result (λ merge. merge.base ≡ old.file.base.now)
  pub runs : IfOk result (λ merge. merge.runs ≡ count)
  pub peak : IfOk result (λ merge. merge.peak ≡ max old.pool.peak (64 * length old.places.items))
  -- nothing but the file of the runs was read
  pub read : LookStep old.file.part result files_before files_now reads_before reads_now faults_before faults_now
