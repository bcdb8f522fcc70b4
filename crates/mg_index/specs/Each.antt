-- Refusals that depend on a fact.
use Rattle.std.specs.Prelude.{ℕ, IfErr}
use Rattle.std.specs.declared.result.Result.{Result}
use Rattle.mg_dev.specs.Causes.{Rose}
use Rattle.mg_dev.specs.declared.fault.Fault.{Fault}
use Rattle.mg_dev.specs.Faults.{ReadStops}

-- refused where the store failed or for want of memory, and for damage only where this is not so
abbrev pub RefusedUnless : {X T : Type 0} → (X → ℕ) → X → X → Type 0 → Result T Fault → Type 0
RefusedUnless faults before now fact result = IfErr result (ReadStops (Rose (faults before) (faults now)) fact)
