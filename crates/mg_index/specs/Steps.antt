-- What one step of writing an index does, told of the moments before it and after it.
use Rattle.std.specs.Prelude.{◌≡◌, ◌≤◌, ℕ, false, List}
use Rattle.std.specs.declared.option.Option.{Option}
use Rattle.std.specs.declared.result.Result.{Result}
use Rattle.mg_dev.specs.Causes.{HasPutCause}
use Rattle.mg_dev.specs.Files.{Files, Reads, SameReads}
use Rattle.mg_dev.specs.Names.{same_part}
use Rattle.mg_dev.specs.declared.device.PutErr.{PutErr}
use Rattle.mg_dev.specs.declared.part.Part.{Part as AnyPart}
use Rattle.mg_dev.specs.declared.part.Part.TheVariants.{MergeA, MergeB, Run}
use Rattle.mg_runs.specs.Left.{Merging}
use Rattle.mg_index.specs.Listing.{SameMerge}
use Rattle.mg_index.specs.Written.{WroteParts}

-- no part was read but those of the runs
abbrev pub ReadRuns : Reads → Reads → Type 0
ReadRuns before now = (p : AnyPart) → same_part p Run ≡ false → same_part p MergeA ≡ false →
    same_part p MergeB ≡ false → now p ≡ before p

-- a step that writes these parts of a base alone, and reads nothing
pub record PutStep {T : Type 0} (parts : AnyPart → Type 0) (base : List ℕ) (result : Result T PutErr)
    (files_before files_now : Option Files)
    (reads_before reads_now : Reads) (faults_before faults_now : ℕ) : Type 0 where
  -- no other file was written
  pub wrote : WroteParts parts base files_before files_now
  -- no part was read
  pub reads : SameReads reads_before reads_now
  -- why it stops; the faults never fall
  pub cause : HasPutCause faults_before faults_now result

-- a step that takes postings from a merge, and writes these parts of a base alone
pub record MergeStep (parts : AnyPart → Type 0) (base : List ℕ) (old new : Merging)
    (files_before files_now : Option Files)
    (reads_before reads_now : Reads) (faults_before faults_now : ℕ) : Type 0 where
  -- the merge goes on: its base and its numbers stay
  pub same : SameMerge old new
  -- no other file was written
  pub wrote : WroteParts parts base files_before files_now
  -- no part was read but those of the runs
  pub reads : ReadRuns reads_before reads_now
  -- the faults never fall
  pub later : faults_before ≤ faults_now

-- a step that takes a posting from a merge, and writes nothing
pub record MergeLook (old new : Merging) (files_before files_now : Option Files) (reads_before reads_now : Reads)
    (faults_before faults_now : ℕ) : Type 0 where
  -- the merge goes on: its base and its numbers stay
  pub same : SameMerge old new
  -- all files are as before
  pub files : files_now ≡ files_before
  -- no part was read but those of the runs
  pub reads : ReadRuns reads_before reads_now
  -- the faults never fall
  pub later : faults_before ≤ faults_now
