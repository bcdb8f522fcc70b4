-- When a reader of parts may refuse for its device.
use Rattle.std.specs.Prelude.{ℕ, ◌≤◌, Ok, Err}
use Rattle.std.specs.declared.result.Result.{Result}
use Rattle.mg_dev.specs.Causes.{Rose}
use Rattle.mg_dev.specs.declared.part_err.PartErr.{PartErr}
use Rattle.mg_dev.specs.declared.part_err.PartErr.TheVariants.{Device, Memory, Bad}

abbrev pub IsCaused : {T : Type 0} → ℕ → ℕ → Result T PartErr → Type 0
IsCaused before now (Ok value) = Unit {0}
IsCaused before now (Err Device) = Rose before now
IsCaused before now (Err Memory) = Unit {0}
IsCaused before now (Err (Bad bad)) = Unit {0}

-- `Device` comes only where the faults rose; the faults never fall
pub record HasPartCause {T : Type 0} (before now : ℕ) (result : Result T PartErr) : Type 0 where
  pub later : before ≤ now
  pub device : IsCaused before now result
