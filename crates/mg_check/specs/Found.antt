-- What checking a set finds, and why it stops.
use Rattle.std.specs.Prelude.{◌≡◌, ◌≢◌, ◌⊎◌, ℕ, List, [], length, Err}
use Rattle.std.specs.Option.{IsSome}
use Rattle.std.specs.declared.option.Option.{Option}
use Rattle.std.specs.declared.result.Result.{Result}
use Rattle.mg_dev.specs.Files.{Files, bytes_at}
use Rattle.mg_dev.specs.Names.{full_name}
use Rattle.mg_dev.specs.declared.fault.Fault.{Fault}
use Rattle.mg_dev.specs.declared.fault.Fault.TheVariants.{Damaged, Memory, NotBuilt, StoreFault}
use Rattle.mg_dev.specs.declared.part.Part.TheVariants.{Head}
use Rattle.mg_defs.specs.Split.{documents}
use Rattle.mg_layout.specs.Contents.{IsOutside}
use Rattle.mg_layout.specs.Stands.{HasNoHead, Stands, StandsForNone}

-- The files of this name stand for a collection of so many documents and bytes.
pub record StandsWith (files : Option Files) (base : List ℕ) (documents_found bytes_found : ℕ) : Type 0 where
  pub collection : List ℕ
  pub stands : Stands files base collection
  pub documents_are : documents_found ≡ length (documents collection)
  pub bytes_are : bytes_found ≡ length collection

-- There is a head that is not empty, and the files of this name stand for no collection.
pub record IsDamagedSet (files : Option Files) (base : List ℕ) : Type 0 where
  pub head : bytes_at files (full_name base Head) ≢ []
  pub none : StandsForNone files base

-- the cause of each refusal; no other comes
abbrev pub CheckStops : Type 0 → Option Files → List ℕ → Fault → Type 0
CheckStops store_rose files base StoreFault = store_rose
CheckStops store_rose files base NotBuilt = IsSome files → HasNoHead files base
CheckStops store_rose files base (Damaged bad) = IsSome files → IsDamagedSet files base
CheckStops store_rose files base Memory = Unit {0}
CheckStops store_rose files base _ = ⊥

-- a damage is told by a number that is outside its range
abbrev pub TellsOutside : Fault → Type 0
TellsOutside (Damaged bad) = IsOutside bad
TellsOutside _ = Unit {0}

-- that is told, or that the store failed or memory is wanting
abbrev pub TellsNotBuilt : {T : Type 0} → Result T Fault → Type 0
TellsNotBuilt result = (result ≡ Err NotBuilt) ⊎ (result ≡ Err StoreFault) ⊎ (result ≡ Err Memory)

-- a claim where the files of this name stand for some collection
abbrev pub IfStands : Option Files → List ℕ → Type 0 → Type 0
IfStands files base claim = (collection : List ℕ) → Stands files base collection → claim
