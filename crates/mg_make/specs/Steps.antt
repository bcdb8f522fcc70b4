-- What one step of the second pass does, told of the moments before it and after it.
use Rattle.std.specs.Prelude.{◌≤◌, ℕ, List, OnOk}
use Rattle.std.specs.declared.option.Option.{Option}
use Rattle.std.specs.declared.result.Result.{Result}
use Rattle.mg_dev.specs.Causes.{Rose}
use Rattle.mg_dev.specs.Files.{Files, Reads, SameReads}
use Rattle.mg_dev.specs.declared.fault.Fault.{Fault}
use Rattle.mg_dev.specs.declared.part.Part.{Part as AnyPart}
use Rattle.mg_defs.specs.Marks.{Mark}
use Rattle.mg_index.specs.Steps.{ReadRuns}
use Rattle.mg_index.specs.Written.{WroteParts}
use Rattle.mg_make.specs.Second.{HasStopCause, Inversion, SamePass, WroteMarks}
use Rattle.mg_make.specs.Written.{WroteSecond}

-- a step of the second pass: it writes these marks, or stops before one of them
pub record PassStep (old new : Inversion) (marks : List Mark) (result : Result (Unit {0}) Fault)
    (files_before files_now : Option Files)
    (reads_before reads_now : Reads) (faults_before faults_now : ℕ) : Type 0 where
  -- when it is done, the marks stand behind all that were written before
  pub written : OnOk result (WroteMarks old new files_before files_now marks)
  -- the base, the plan and the size of the pool stay
  pub same : SamePass old new
  -- no file was written but the parts of the second pass
  pub wrote : WroteSecond old.base files_before files_now
  -- no part was read
  pub reads : SameReads reads_before reads_now
  -- the faults never fall
  pub faults : faults_before ≤ faults_now
  -- why it stops
  pub refused : HasStopCause old files_before marks (Rose faults_before faults_now) result

-- a step that writes these parts of a base alone, and reads what was sorted
pub record SortStep (parts : AnyPart → Type 0) (base : List ℕ) (files_before files_now : Option Files)
    (reads_before reads_now : Reads)
    (faults_before faults_now : ℕ) : Type 0 where
  -- no other file was written
  pub wrote : WroteParts parts base files_before files_now
  -- no part was read but those of the runs
  pub reads : ReadRuns reads_before reads_now
  -- the faults never fall
  pub later : faults_before ≤ faults_now
