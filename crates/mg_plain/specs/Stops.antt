-- Why a call stops.
use Rattle.std.specs.Prelude.{◌≡◌, ◌≢◌, ◌<◌, ◌≤◌, ℕ, true, false, List, length, None, Some, IsSome, IfErr, IfOk}
use Rattle.std.specs.Option.{ForSome}
use Rattle.std.specs.declared.option.Option.{Option}
use Rattle.std.specs.declared.result.Result.{Result}
use Rattle.mg_dev.specs.Causes.{Rose}
use Rattle.mg_dev.specs.Files.{Files, HasSize, file_at}
use Rattle.mg_dev.specs.Names.{same_part}
use Rattle.mg_dev.specs.Runs.{RefusedFor}
use Rattle.mg_dev.specs.declared.fault.Fault.{Fault}
use Rattle.mg_dev.specs.declared.fault.Fault.TheVariants.{StoreFault, ReadFault, WriteFault, NoCollection, TooLarge, Changed, Memory, InputTooLong}
use Rattle.mg_dev.specs.declared.part.Part.{Part}
use Rattle.mg_dev.specs.declared.part.Part.TheVariants.{Plain}
use Rattle.mg_dev.specs.declared.store.Store as stores
use Rattle.mg_dev.specs.declared.what.What.TheVariants.{Size}
use Rattle.mg_defs.specs.InputLimit.{is_too_much}
use Rattle.mg_defs.specs.Limits.{input_limit, held_bytes}
pub use Rattle.mg_reply.specs.Refusals.{AnswerStops}

-- why a collection is not loaded
abbrev pub LoadStops : Type 0 → Option Files → List ℕ → Fault → Type 0
LoadStops store_rose files name StoreFault = store_rose
LoadStops store_rose files name NoCollection = IsSome files → file_at files name ≡ None
LoadStops store_rose files name (TooLarge size most) = (most ≡ held_bytes) × (most < size) × HasSize files name size
LoadStops store_rose files name (Changed what first second) = (what ≡ Size) × (first ≢ second) × ¬ IsSome files
LoadStops store_rose files name Memory = Unit {0}
LoadStops store_rose files name _ = ⊥

-- The file of a name is read into memory, by what the store's type tells.
pub record LoadsText {X : Type 0} (name : List ℕ) (result : Result (List ℕ) Fault) (of : stores.Ghosts X) (store store_now : X) :
    Type 0 where
  pub content : IsSome (of.files store) → IfOk result (λ text. file_at (of.files store) name ≡ Some text)
  pub cause : IfErr result (LoadStops (Rose (of.faults store) (of.faults store_now)) (of.files store) name)
  -- no file changes, and no part is read but the collection
  pub files : of.files store_now ≡ of.files store
  pub reads : (p : Part) → same_part p Plain ≡ false → of.reads store_now p ≡ of.reads store p
  pub later : of.faults store ≤ of.faults store_now

-- more bytes than a scan takes are refused
abbrev pub RefusesLarge : Result (Unit {0}) Fault → List ℕ → Type 0
RefusesLarge result bytes = held_bytes < length bytes → RefusedFor result (TooLarge (length bytes) held_bytes)

-- why a scan stops: reading its input, writing its replies, and before both loading its collection
abbrev pub ScanStops : List ℕ → Type 0 → Type 0 → Type 0 → Option Files → Option (List ℕ) → Fault → Type 0
ScanStops name store_rose input_rose output_rose files input ReadFault = input_rose
ScanStops name store_rose input_rose output_rose files input InputTooLong =
    ForSome input (λ given. is_too_much input_limit given ≡ true)
ScanStops name store_rose input_rose output_rose files input WriteFault = output_rose
ScanStops name store_rose input_rose output_rose files input fault = LoadStops store_rose files name fault
