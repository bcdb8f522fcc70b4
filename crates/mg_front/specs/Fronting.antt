-- A writer of front-coded entries: what contracts see of it, and which entries it took.
use Rattle.std.specs.Prelude.{◌≡◌, ◌≢◌, ◌++◌, ◌∷◌, ℕ, List, [], length, None, Some, OnOk}
use Rattle.std.specs.Option.{IsSome, ForSome, is_some}
use Rattle.std.specs.declared.option.Option.{Option}
use Rattle.std.specs.declared.result.Result.{Result}
use Rattle.mg_dev.specs.declared.device.PutErr.{PutErr}
use Rattle.mg_dev.specs.Causes.{HasPutCause}
use Rattle.mg_dev.specs.Files.{Files, Reads, SameReads, bytes_at, written}
use Rattle.mg_bits.specs.Alike.{SameAt, TellAlike}
use Rattle.mg_bits.specs.Writer.{Writing, put_to, WroteTo, Wrote}
use Rattle.mg_defs.specs.Front.{Entry, AreEntries, front, whole_at, last_string}

pub record Fronting : Type 0 where
  pub strings : Writing
  pub places : Option Writing
  pub width : ℕ
  pub count : ℕ
  pub place : ℕ
  pub last : List ℕ

-- a call that writes these bytes through a writer
pub record Puts {T : Type 0} (old new : Writing) (piece : List ℕ) (result : Result T PutErr)
    (files_before files_now : Option Files) (reads_before reads_now : Reads) (faults_before faults_now : ℕ) : Type 0
  where
    -- they stand behind what was written before
    pub bytes : OnOk result (Wrote old new files_before files_now piece)
    -- no other file was written
    pub wrote : WroteTo old.name files_before files_now reads_before reads_now
    -- a failure has its cause in the device
    pub cause : HasPutCause faults_before faults_now result

-- these bytes were written, where places are written
abbrev pub PlaceWrote : Option Writing → Option Writing → Option Files → Option Files → List ℕ → Type 0
PlaceWrote None None before now bytes = now ≡ before
PlaceWrote (Some old) (Some new) before now bytes = Wrote old new before now bytes
PlaceWrote None (Some new) before now bytes = ⊥
PlaceWrote (Some old) None before now bytes = ⊥

-- only the file of the places was written, where there is one
abbrev pub WroteToPlaces : Option Writing → Option Files → Option Files → Reads → Reads → Type 0
WroteToPlaces None before now reads reads_now = (now ≡ before) × SameReads reads reads_now
WroteToPlaces (Some places) before now reads reads_now = WroteTo places.name before now reads reads_now

-- a call that writes these bytes of places, where places are written
pub record PutsPlaces (old new : Option Writing) (piece : List ℕ) (result : Result (Unit {0}) PutErr)
    (files_before files_now : Option Files) (reads_before reads_now : Reads) (faults_before faults_now : ℕ) : Type 0
  where
    -- they stand behind what was written before
    pub bytes : OnOk result (PlaceWrote old new files_before files_now piece)
    -- no other file was written
    pub wrote : WroteToPlaces old files_before files_now reads_before reads_now
    -- a failure has its cause in the device
    pub cause : HasPutCause faults_before faults_now result

-- the places of whole entries, in a file of another name
abbrev pub PlacesTook : Option Writing → List ℕ → Option Files → List Entry → Type 0
PlacesTook None name files es = Unit {0}
PlacesTook (Some places) name files es = (places.name ≢ name) × (IsSome files → put_to places files ≡ whole_at es)

-- the writer stands for these entries
pub record Took (w : Fronting) (files : Option Files) (es : List Entry) : Type 0 where
  pub count : w.count ≡ length es
  pub last : w.last ≡ last_string [] es
  pub entries : AreEntries w.width 0 [] es
  pub place : w.place ≡ length (front es)
  pub strings : IsSome files → put_to w.strings files ≡ front es
  pub places : PlacesTook w.places w.strings.name files es

-- whatever entries the writer took, it took this one too
abbrev pub TookAlso : Fronting → Fronting → Option Files → Option Files → Entry → Type 0
TookAlso old new before now e = (es : List Entry) → Took old before es → Took new now (es ++ e ∷ [])

-- a fact where both stores tell alike and hold the same files of a writer
abbrev pub WhereSameFronts : Fronting → Option Files → Option Files → Type 0 → Type 0
WhereSameFronts w one other fact =
    TellAlike one other → SameAt one other w.strings.name → ForSome w.places (λ places. SameAt one other places.name) →
    fact

-- a name of neither file
abbrev pub IsOther : List ℕ → List ℕ → Option Writing → Type 0
IsOther n strings None = n ≢ strings
IsOther n strings (Some places) = (n ≢ strings) × (n ≢ places.name)

-- a writer of places is there where a file was asked for, and has written nothing
abbrev pub StartedPlaces : Option (List ℕ) → Option Writing → Option Files → Option Files → Type 0
StartedPlaces None None before now = Unit {0}
StartedPlaces (Some name) (Some places) before now = (places.name ≡ name) × (IsSome before → put_to places now ≡ [])
StartedPlaces None (Some places) before now = ⊥
StartedPlaces (Some name) None before now = ⊥

-- the file that was asked for is there and empty, where one was
abbrev pub with_empty : Option Files → Option (List ℕ) → Option Files
with_empty files None = files
with_empty files (Some name) = written files name []

-- only the file that was asked for was written, where one was
abbrev pub WroteToAsked : Option (List ℕ) → Option Files → Option Files → Reads → Reads → Type 0
WroteToAsked None before now reads reads_now = (now ≡ before) × SameReads reads reads_now
WroteToAsked (Some name) before now reads reads_now = WroteTo name before now reads reads_now

-- a name of neither file that was asked for
abbrev pub IsNotAsked : List ℕ → List ℕ → Option (List ℕ) → Type 0
IsNotAsked n strings None = n ≢ strings
IsNotAsked n strings (Some places) = (n ≢ strings) × (n ≢ places)

-- a call that writes a writer's own files, of which these names are none, and reads nothing
pub record WritesFront {T : Type 0} (is_other : List ℕ → Type 0) (result : Result T PutErr)
    (files_before files_now : Option Files) (reads_before reads_now : Reads) (faults_before faults_now : ℕ) : Type 0
  where
    -- each other file is as before
    pub others : (n : List ℕ) → is_other n → SameAt files_before files_now n
    -- the store tells its files where it told them before
    pub told : is_some files_now ≡ is_some files_before
    -- no part was read
    pub reads : SameReads reads_before reads_now
    -- a refusal has a cause
    pub cause : HasPutCause faults_before faults_now result

-- the file of the places, where there is one, holds those of these entries
abbrev pub PlacesHold : Option Writing → Option Files → List Entry → Type 0
PlacesHold None files es = Unit {0}
PlacesHold (Some places) files es = bytes_at files places.name ≡ whole_at es

-- the files hold these entries and their places
pub record Finished (w : Fronting) (files : Option Files) (es : List Entry) : Type 0 where
  pub strings : bytes_at files w.strings.name ≡ front es
  pub places : PlacesHold w.places files es

-- where the files are told, they hold whatever entries the writer took
abbrev pub FinishedAll : Fronting → Option Files → Option Files → Type 0
FinishedAll w before now = (es : List Entry) → Took w before es → IsSome before → Finished w now es

-- nothing is held back
abbrev pub HoldsNothing : Option Writing → Type 0
HoldsNothing None = Unit {0}
HoldsNothing (Some places) = places.buffered ≡ []
