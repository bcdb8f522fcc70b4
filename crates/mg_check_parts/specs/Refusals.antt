-- What a refusal shows.
use Rattle.std.specs.Prelude.{Ok, Err}
use Rattle.std.specs.declared.result.Result.{Result}
use Rattle.mg_dev.specs.declared.part_err.PartErr.{PartErr}
use Rattle.mg_dev.specs.declared.part_err.PartErr.TheVariants.{Device, Memory, Bad}

-- where a refusal says that a part is bad
abbrev pub IfBad : PartErr → Type 0 → Type 0
IfBad Device then = Unit {0}
IfBad Memory then = Unit {0}
IfBad (Bad bad) then = then

abbrev pub OnBad : {T : Type 0} → Result T PartErr → Type 0 → Type 0
OnBad (Ok value) then = Unit {0}
OnBad (Err refusal) then = IfBad refusal then

-- this holds where damage is told
abbrev pub WhereBad : {T : Type 0} → Type 0 → Result T PartErr → Type 0
WhereBad claim (Ok value) = Unit {0}
WhereBad claim (Err Device) = Unit {0}
WhereBad claim (Err Memory) = Unit {0}
WhereBad claim (Err (Bad bad)) = claim

-- where a part is told as bad, this does not hold
abbrev pub Refutes : Type 0 → PartErr → Type 0
Refutes P Device = Unit {0}
Refutes P Memory = Unit {0}
Refutes P (Bad bad) = P → ⊥

-- a refusal that no device is the cause of
abbrev pub IsNotDevice : PartErr → Type 0
IsNotDevice Device = ⊥
IsNotDevice Memory = Unit {0}
IsNotDevice (Bad bad) = Unit {0}
