-- Why the steps of a merge stop.
use Rattle.std.specs.Prelude.{◌≡◌, ◌≢◌, ◌⊎◌, ◌<◌, ◌+◌, ℕ, List, Err, Ok}
use Rattle.std.specs.Option.{IsSome}
use Rattle.std.specs.declared.option.Option.{Option}
use Rattle.std.specs.declared.result.Result.{Result}
use Rattle.mg_dev.specs.Faults.{IsDamagedPart}
use Rattle.mg_dev.specs.Files.{Files, bytes_at}
use Rattle.mg_dev.specs.Names.{full_name}
use Rattle.mg_dev.specs.declared.fault.Fault.{Fault}
use Rattle.mg_dev.specs.declared.fault.Fault.TheVariants.{Changed, Damaged, Memory, NotBuilt, StoreFault, TooManyDocuments, TooManyPieces}
use Rattle.mg_dev.specs.declared.part.Part.TheVariants.{Head}
use Rattle.mg_dev.specs.declared.part_err.PartErr.{PartErr}
use Rattle.mg_dev.specs.declared.part_err.PartErr.TheVariants as part
use Rattle.mg_defs.specs.declared.Stream.{Stream}
use Rattle.mg_defs.specs.declared.Stream.TheVariants.{Others, Words}
use Rattle.mg_defs.specs.Heads.{IsHead}
use Rattle.mg_defs.specs.Heads as heads
use Rattle.mg_defs.specs.Limits.{version_2}
use Rattle.mg_defs.specs.Marks.{PassesFirst, piece, start}
use Rattle.mg_layout.specs.Stands.{HasNoHead}

-- ---- heads

-- the heads of two bases, of version 1 or 2
pub record AreHeads (files : Option Files) (first second : List ℕ) (a b : heads.Head) : Type 0 where
  pub first_is : IsHead 1 2 (bytes_at files (full_name first Head)) a
  pub second_is : IsHead 1 2 (bytes_at files (full_name second Head)) b

-- why two heads are not loaded
abbrev pub HeadStops : Type 0 → Option Files → List ℕ → List ℕ → Fault → Type 0
HeadStops store_rose files first second StoreFault = store_rose
HeadStops store_rose files first second NotBuilt = IsSome files → HasNoHead files first ⊎ HasNoHead files second
HeadStops store_rose files first second (Damaged bad) = IsSome files → (a b : heads.Head) →
    AreHeads files first second a b → ⊥
HeadStops store_rose files first second Memory = Unit {0}
HeadStops store_rose files first second _ = ⊥

-- what is told in place of damage of the first head where the second one is missing
abbrev pub IsRefusedFirst : Fault → Type 0
IsRefusedFirst NotBuilt = Unit {0}
IsRefusedFirst StoreFault = Unit {0}
IsRefusedFirst Memory = Unit {0}
IsRefusedFirst _ = ⊥

-- what is told of the second head where the first one was refused so
abbrev pub IsToldFirst : Type 0 → Option Files → List ℕ → PartErr → Fault → Type 0
IsToldFirst store_rose files second part.Device fault = fault ≡ StoreFault
IsToldFirst store_rose files second part.Memory fault = fault ≡ Memory
IsToldFirst store_rose files second (part.Bad bad) StoreFault = store_rose
IsToldFirst store_rose files second (part.Bad bad) NotBuilt = IsSome files → HasNoHead files second
IsToldFirst store_rose files second (part.Bad bad) (Damaged damage) = Unit {0}
IsToldFirst store_rose files second (part.Bad bad) Memory = Unit {0}
IsToldFirst store_rose files second (part.Bad bad) _ = ⊥

-- ---- passes

-- why the documents of texts are not counted, where the texts stand for collections so
abbrev pub CountingStops : Type 0 → (List ℕ → Type 0) → Fault → Type 0
CountingStops store_rose stands StoreFault = store_rose
CountingStops store_rose stands (Damaged bad) = (collection : List ℕ) → stands collection → ⊥
CountingStops store_rose stands TooManyDocuments = (collection : List ℕ) → stands collection →
    PassesFirst version_2 collection start
CountingStops store_rose stands (TooManyPieces stream) = (collection : List ℕ) → stands collection →
    (bytes : List ℕ) × PassesFirst version_2 collection (piece stream bytes)
CountingStops store_rose stands Memory = Unit {0}
CountingStops store_rose stands _ = ⊥

-- numbers that are told as changed differ
abbrev pub Differ : Fault → Type 0
Differ (Changed what first second) = first ≢ second
Differ _ = Unit {0}

-- what was counted and is written otherwise is told as damaged, all else as it is
abbrev pub IsRetold : Fault → Fault → Type 0
IsRetold (Changed what first second) told = IsDamagedPart told
IsRetold fault told = told ≡ fault

-- the head of the one or of the other base is missing or empty
abbrev pub IsOneMissing : Option Files → List ℕ → List ℕ → Type 0
IsOneMissing files first second = HasNoHead files first ⊎ HasNoHead files second

-- ---- limits, by what the heads tell

-- how many pieces of a stream a head tells
abbrev pub pieces_told : Stream → heads.Head → ℕ
pieces_told Words head = head.words
pieces_told Others head = head.others

-- a limit that is told as passed: the numbers of both heads together pass it
abbrev pub AreBeyond : heads.Head → heads.Head → Fault → Type 0
AreBeyond a b TooManyDocuments = version_2.documents < a.documents + b.documents
AreBeyond a b (TooManyPieces stream) = version_2.pieces < pieces_told stream a + pieces_told stream b
AreBeyond a b _ = Unit {0}

-- the heads of two bases tell so
pub record TellBeyond (files : Option Files) (first second : List ℕ) (fault : Fault) : Type 0 where
  pub a : heads.Head
  pub b : heads.Head
  pub are : AreHeads files first second a b
  pub beyond : AreBeyond a b fault

-- a limit that the heads do not pass is told as damage, all else as it is
abbrev pub IsToldByHeads : heads.Head → heads.Head → Fault → Fault → Type 0
IsToldByHeads a b fault told = (AreBeyond a b fault × (told ≡ fault)) ⊎ (¬ AreBeyond a b fault × IsDamagedPart told)

-- so is it told of what a call answered
abbrev pub IsAnswerByHeads : {T : Type 0} → heads.Head → heads.Head → Result T Fault → Result T Fault → Type 0
IsAnswerByHeads a b (Ok value) answer = answer ≡ Ok value
IsAnswerByHeads a b (Err fault) answer = (told : Fault) × (answer ≡ Err told) × IsToldByHeads a b fault told
