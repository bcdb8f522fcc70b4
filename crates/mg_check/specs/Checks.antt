-- What a check finds, of which its promise to callers is made.
use Rattle.std.specs.Prelude.{◌≡◌, ◌≢◌, ◌≤◌, ℕ, List, Err, IfErr, IfOk}
use Rattle.std.specs.Option.{IsSome}
use Rattle.std.specs.declared.option.Option.{Option}
use Rattle.std.specs.declared.result.Result.{Result}
use Rattle.mg_dev.specs.Causes.{Rose}
use Rattle.mg_dev.specs.Files.{Files, Reads}
use Rattle.mg_dev.specs.declared.fault.Fault.{Fault}
use Rattle.mg_dev.specs.declared.fault.Fault.TheVariants.{Memory}
use Rattle.mg_layout.specs.Stands.{HasNoHead}
use Rattle.mg_check_parts.specs.Looks.{reads_outside}
use Rattle.mg_check.specs.Found.{CheckStops, StandsWith}
use Rattle.mg_check.specs.declared.found.Found.{Found}

-- a set is checked, told of the moments before and after
pub record ChecksFiles (base : List ℕ) (result : Result Found Fault)
    (files files_now : Option Files) (reads reads_now : Reads) (faults faults_now : ℕ) : Type 0 where
  -- yes: the files stand for a collection of so many documents and bytes
  pub stands : IsSome files → IfOk result (λ found. StandsWith files base found.documents found.bytes)
  -- no, and every other refusal, has its cause
  pub cause : IfErr result (CheckStops (Rose faults faults_now) files base)
  -- where there is no head, memory is not wanted
  pub early : IsSome files → HasNoHead files base → result ≢ Err Memory
  -- no file has changed
  pub same : files_now ≡ files
  -- no part was read that is none of a set
  pub unread : reads_outside reads_now ≡ reads_outside reads
  -- the faults never fall
  pub later : faults ≤ faults_now
