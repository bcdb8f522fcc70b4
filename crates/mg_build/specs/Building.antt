-- Why a build stops, and what it leaves.
use Rattle.std.specs.Prelude.{◌≡◌, ◌≢◌, ◌⊎◌, ◌<◌, ◌≤◌, ◌+◌, ◌/◌, ℕ, List, length, None, Some}
use Rattle.std.specs.Option.{IsSome}
use Rattle.std.specs.declared.option.Option.{Option}
use Rattle.std.specs.declared.result.Result.{Result}
use Rattle.mg_dev.specs.declared.part.Part.TheVariants.{Plain}
use Rattle.mg_dev.specs.declared.part.Part.TheVariants as part
use Rattle.mg_dev.specs.Files.{Files, bytes_at, file_at}
use Rattle.mg_dev.specs.Names.{full_name}
use Rattle.mg_dev.specs.Runs.{RefusedFor}
use Rattle.mg_dev.specs.declared.fault.Fault.{Fault}
use Rattle.mg_dev.specs.declared.fault.Fault.TheVariants.{Changed, Damaged, Memory, NameClash, NoCollection, StoreFault, TooLarge, TooManyDocuments, TooManyPieces}
use Rattle.mg_defs.specs.declared.Stream.{Stream}
use Rattle.mg_defs.specs.Limits.{version_2}
use Rattle.mg_defs.specs.Marks.{PassesFirst, piece, start}
use Rattle.mg_defs.specs.Split.{documents}
use Rattle.mg_defs.specs.TextBits.{text_bits}
use Rattle.mg_make.specs.Changes.{TellsAtEnd}
use Rattle.mg_make.specs.Plans.{IsPlanOf, Plan}
use Rattle.mg_make.specs.Putting.{IsApart}
use Rattle.mg_make.specs.Outcomes.{most_bytes}
use Rattle.mg_build.specs.Sources.{AreRead, Sourcing, TellsSize}

-- the store tells its files, this one has so many bytes, and the plan is that of these
pub record IsPlanFor (plan : Plan) (files : Option Files) (name : List ℕ) (size : ℕ) : Type 0 where
  pub told : IsSome files
  pub whole : length (bytes_at files name) ≡ size
  pub counted : IsPlanOf plan (bytes_at files name)

-- why the first pass stops, by the file of the collection and the size that it had
abbrev pub PassStops : Type 0 → Option Files → List ℕ → ℕ → Fault → Type 0
PassStops store_rose files name size StoreFault = store_rose
PassStops store_rose files name size (Changed what first second) = (first ≢ second)
    × (IsSome files → length (bytes_at files name) ≢ size)
PassStops store_rose files name size TooManyDocuments = IsSome files → length (bytes_at files name) ≡ size →
    PassesFirst version_2 (bytes_at files name) start
PassStops store_rose files name size (TooManyPieces stream) = IsSome files → length (bytes_at files name) ≡ size →
    (bytes : List ℕ) × PassesFirst version_2 (bytes_at files name) (piece stream bytes)
PassStops store_rose files name size Memory = Unit {0}
PassStops store_rose files name size _ = ⊥

-- why writing stops: what is read is not what was counted
abbrev pub WriteStops : Type 0 → Type 0 → Fault → Type 0
WriteStops store_rose same StoreFault = store_rose
WriteStops store_rose same (Changed what first second) = (first ≢ second) × (same → ⊥)
WriteStops store_rose same (Damaged bad) = same → ⊥
WriteStops store_rose same Memory = Unit {0}
WriteStops store_rose same _ = ⊥

-- bytes that were read of a file, at most so many, have another number than by a plan, and both are told
pub record ReadsOther (plan : Plan) (files : Option Files) (name : List ℕ) (size : ℕ) (fault : Fault) : Type 0 where
  pub read : List ℕ
  pub within : length read ≤ size
  pub are : AreRead files name (length read) read
  pub tells : TellsAtEnd plan read fault

-- what a change tells of a file that is read again: that it ended before its size, or what those bytes have
abbrev pub TellsRead : Plan → Option Files → List ℕ → ℕ → Fault → Type 0
TellsRead plan files name size fault = TellsSize size fault ⊎ ReadsOther plan files name size fault

-- the plan of the bytes of a first reading, and other bytes of the second one, both of a file of so many
pub record TwoReadings (files : Option Files) (name : List ℕ) (fault : Fault) : Type 0 where
  pub size : ℕ
  pub first : List ℕ
  pub plan : Plan
  pub are : AreRead files name size first
  pub planned : IsPlanOf plan first
  pub second : ReadsOther plan files name size fault

-- what a change of a file tells that is read twice: that it ended before its size, or a number of both readings
abbrev pub TellsTwoReadings : Option Files → List ℕ → Fault → Type 0
TellsTwoReadings files name fault = ((size : ℕ) × TellsSize size fault) ⊎ TwoReadings files name fault

-- the cause of each refusal of a build, by the files as it began, the collection's name and the base
abbrev pub BuildStops : Type 0 → Option Files → List ℕ → List ℕ → Fault → Type 0
BuildStops store_rose files name base StoreFault = store_rose
BuildStops store_rose files name base (Damaged bad) = IsSome files → ⊥
BuildStops store_rose files name base NoCollection = IsSome files → file_at files name ≡ None
BuildStops store_rose files name base (TooLarge size most) = (most ≡ most_bytes) × (most < size)
    × (IsSome files → length (bytes_at files name) ≡ size)
BuildStops store_rose files name base TooManyDocuments = IsSome files →
    PassesFirst version_2 (bytes_at files name) start
BuildStops store_rose files name base (TooManyPieces stream) = IsSome files →
    (bytes : List ℕ) × PassesFirst version_2 (bytes_at files name) (piece stream bytes)
BuildStops store_rose files name base (Changed what first second) = (first ≢ second) × (IsSome files → ⊥)
BuildStops store_rose files name base Memory = Unit {0}
BuildStops store_rose files name base (NameClash p) = (p ≢ Plain) × (name ≡ full_name base p)
BuildStops store_rose files name base _ = ⊥

-- ---- words for its contracts

-- refused where there is no file of this name
abbrev pub RefusesNoFile : {T : Type 0} → Option Files → List ℕ → Result T Fault → Type 0
RefusesNoFile files name result = file_at files name ≡ None → RefusedFor result NoCollection

-- the part of the text of a base has no more bytes than the bits of a collection and one for each document
abbrev pub TextIsShort : Option Files → List ℕ → List ℕ → Type 0
TextIsShort files base collection = length (bytes_at files (full_name base part.Text))
    ≤ text_bits collection / 8 + length (documents collection)

-- this is so of the bytes of the file of this name, if that is no part of a set of this base
abbrev pub ForFile : Option Files → List ℕ → List ℕ → (List ℕ → Type 0) → Type 0
ForFile files name base holds = (bytes : List ℕ) → file_at files name ≡ Some bytes → IsApart base name → holds bytes

-- and it is so with each piece
abbrev pub ForFileAndPiece : Option Files → List ℕ → List ℕ → (List ℕ → Stream → List ℕ → Type 0) → Type 0
ForFileAndPiece files name base holds = (bytes : List ℕ) (stream : Stream) (word : List ℕ) →
    file_at files name ≡ Some bytes → IsApart base name → holds bytes stream word

-- the plan is that of the bytes of a source, of which there are as many as when it was opened
abbrev pub IsPlanAt : Plan → Option Files → Sourcing → Type 0
IsPlanAt plan files source = IsPlanFor plan files source.feed.name source.size

-- these are the bytes of a source, and it is their plan
abbrev pub IsPlanned : Plan → Option Files → Sourcing → List ℕ → Type 0
IsPlanned plan files source bytes = IsPlanAt plan files source × (bytes_at files source.feed.name ≡ bytes)

-- the file of a source has as many bytes as when it was opened
abbrev pub HasItsSize : Option Files → Sourcing → Type 0
HasItsSize files source = length (bytes_at files source.feed.name) ≡ source.size
