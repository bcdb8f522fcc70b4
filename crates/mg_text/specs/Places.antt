-- A place in the part of places.
use Rattle.std.specs.Prelude.{◌≡◌, ℕ, ◌+◌, ◌*◌, ◌^◌, ◌-◌, ◌<◌, ◌≤◌, ◌==◌, if◌then◌else◌, List, length, take, drop, Some, IfOk, IfSome}
use Rattle.std.specs.Option.{IsSome}
use Rattle.std.specs.declared.option.Option.{Option}
use Rattle.std.specs.declared.result.Result.{Result}
use Rattle.mg_dev.specs.Files.{Files, Reads, bytes_at}
use Rattle.mg_dev.specs.Moments.{Between}
use Rattle.mg_bits.specs.Pages.{Fits, Looked, Paging, SameFile}
use Rattle.mg_defs.specs.CodedText.{TextCode, place_bytes, text_part}
use Rattle.mg_defs.specs.Numbers.{eight_at, four_at}

-- the bytes of a place
abbrev pub place_width : ℕ → ℕ
place_width version = if version == 1 then 4 else 8

-- what a place is below
abbrev pub place_limit : ℕ → ℕ
place_limit version = if version == 1 then 2 ^ 32 else 2 ^ 64

-- what reading a place promises
pub record ReadsPlace (claim : Type 0) (caused : ℕ → ℕ → Type 0) (old new : Paging) (files_before files_now : Option Files)
    (reads_before reads_now : Reads) (faults_before faults_now : ℕ) : Type 0 where
  -- what the feed keeps of the part agrees with it
  pub fits : Fits new files_now
  -- the feed reads the same file
  pub file : SameFile old new
  -- nothing is read but the feed's part, and no file changes
  pub looked : Looked old.part files_before files_now reads_before reads_now faults_before faults_now
  -- at most one page is read
  pub page : reads_now old.part ≤ reads_before old.part + 1
  -- what is told of the place
  pub told : claim
  -- a refusal has its cause
  pub cause : caused faults_before faults_now

-- the same by the functions that tell of a store
abbrev pub LooksUp : {X : Type 0} → Type 0 → (ℕ → ℕ → Type 0) → Paging → Paging → (X → Option Files) → (X → Reads) →
    (X → ℕ) → X → X → Type 0
LooksUp claim caused old new files reads faults before now = Between files reads faults before now
    (ReadsPlace claim caused old new)

-- the place of an index is this one
pub record IsPlaceAt (version index place : ℕ) (bytes : List ℕ) : Type 0 where
  pub fits : place < place_limit version
  pub bytes_are : take (place_width version) (drop (place_width version * index) bytes) ≡ place_bytes version place

-- the bytes of an index, of so many each
abbrev pub slot_at : ℕ → ℕ → List ℕ → List ℕ
slot_at width index bytes = take width (drop (width * index) bytes)

-- the number that bytes of this width have
abbrev pub number_in : ℕ → List ℕ → ℕ
number_in width bytes = if width == 4 then four_at bytes 0 else eight_at bytes 0

-- at an index of numbers of so many bytes each stands this one
pub record NumberStands (width index number : ℕ) (bytes : List ℕ) : Type 0 where
  pub whole : length (slot_at width index bytes) ≡ width
  pub number_is : number ≡ number_in width (slot_at width index bytes)

-- where the files are told: the number that is answered stands at an index of a feed's file
abbrev pub StoodNumber : {E : Type 0} → Paging → Option Files → ℕ → ℕ → Result (Option ℕ) E → Type 0
StoodNumber feed files width index result = IsSome files → IfOk result (λ found. IfSome found (λ number.
    NumberStands width index number (bytes_at files feed.name)))

-- where the files are told: the number of so many bytes at an index of a feed's file is answered, where it is below a limit
abbrev pub AnswersNumber : {E : Type 0} → Paging → Option Files → ℕ → ℕ → (ℕ → List ℕ) → ℕ → Result (Option ℕ) E →
    Type 0
AnswersNumber feed files width index coded limit result = IsSome files → (p : ℕ) → p < limit →
    take width (drop (width * index) (bytes_at files feed.name)) ≡ coded p → IfOk result (λ place. place ≡ Some p)

-- a fact on the place of an index in a feed's file, where the files are told
abbrev pub ForPlace : Paging → Option Files → ℕ → ℕ → (ℕ → Type 0) → Type 0
ForPlace feed files version index fact = IsSome files → (p : ℕ) → IsPlaceAt version index p (bytes_at files feed.name) →
    fact p

-- the most bytes of a text whose places fit
abbrev pub most_text : ℕ → ℕ
most_text version = if version == 1 then 2 ^ 32 - 1 else 2 ^ 60

-- the text's places fit in a version of the files
abbrev pub FitsVersion : ℕ → TextCode → List ℕ → Type 0
FitsVersion version code collection = length (text_part code collection) ≤ most_text version
