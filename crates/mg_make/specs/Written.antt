-- Which files the second pass writes, and why it stops.
use Rattle.std.specs.Prelude.{◌≢◌, ℕ, List}
use Rattle.std.specs.declared.option.Option.{Option}
use Rattle.mg_dev.specs.declared.part.Part.{Part as AnyPart}
use Rattle.mg_dev.specs.declared.part.Part.TheVariants.{MergeA, MergeB, Places, Run, Text}
use Rattle.mg_dev.specs.Files.{Files}
use Rattle.mg_dev.specs.declared.fault.Fault.{Fault}
use Rattle.mg_dev.specs.declared.fault.Fault.TheVariants.{Changed, Memory, StoreFault}
use Rattle.mg_index.specs.Written.{WroteParts}

-- the parts that the second pass writes
abbrev pub OfSecond : AnyPart → Type 0
OfSecond Text = Unit {0}
OfSecond Places = Unit {0}
OfSecond Run = Unit {0}
OfSecond MergeA = Unit {0}
OfSecond MergeB = Unit {0}
OfSecond p = ⊥

-- a step writes them alone
abbrev pub WroteSecond : List ℕ → Option Files → Option Files → Type 0
WroteSecond base before now = WroteParts OfSecond base before now

-- why the second pass stops: what it takes is not what was counted
abbrev pub SecondStops : Type 0 → Type 0 → Fault → Type 0
SecondStops store_rose same StoreFault = store_rose
SecondStops store_rose same Memory = Unit {0}
SecondStops store_rose same (Changed what first second) = (first ≢ second) × ¬ same
SecondStops store_rose same _ = ⊥
