-- What a call does that compares a part with what is to stand in it.
use Rattle.std.specs.Prelude.{◌≡◌, ◌≢◌, ℕ, Err}
use Rattle.std.specs.Option.{IsSome}
use Rattle.std.specs.declared.option.Option.{Option}
use Rattle.std.specs.declared.result.Result.{Result}
use Rattle.mg_dev.specs.Files.{Files, Reads}
use Rattle.mg_dev.specs.PartCauses.{HasPartCause}
use Rattle.mg_dev.specs.declared.part_err.PartErr.{PartErr}
use Rattle.mg_dev.specs.declared.part_err.PartErr.TheVariants.{Memory}

-- a part is compared: what is answered by the files, and what is read
pub record Compares (answers : Option Files → Result (Unit {0}) PartErr → Type 0) (looks : Reads → Reads → Type 0)
    (result : Result (Unit {0}) PartErr) (files_before files_now : Option Files) (reads_before reads_now : Reads)
    (faults_before faults_now : ℕ) : Type 0
  where
    -- where the files are told, the answer is that of what stands there
    pub answer : IsSome files_before → answers files_before result
    -- it asks for no memory
    pub memory : result ≢ Err Memory
    -- no file changed
    pub files : files_now ≡ files_before
    -- nothing else was read
    pub reads : looks reads_before reads_now
    -- a refusal has its cause in the device
    pub cause : HasPartCause faults_before faults_now result
