-- A reader of a part and of its places: what contracts see of it, and what it answers where both stand.
use Rattle.std.specs.Prelude.{◌⊎◌, false, true, ◌≡◌, ◌≢◌, ◌≤◌, ◌<◌, ◌+◌, ◌*◌, ◌^◌, ℕ, Bool, List, length, take, drop, slice_get, None, Some, Result, Ok, Err, IfErr, IfOk}
use Rattle.std.specs.Option.{IsSome}
use Rattle.std.specs.declared.option.Option.{Option}
use Rattle.std.specs.Int.{div_ceil}
use Rattle.mg_dev.specs.Files.{Files, Reads, SameReads, bytes_at}
use Rattle.mg_dev.specs.Names.{file_name, same_part}
use Rattle.mg_dev.specs.declared.file_ref.FileRef.{FileRef}
use Rattle.mg_dev.specs.declared.bad as declared
use Rattle.mg_dev.specs.declared.part.Part.{Part}
use Rattle.mg_dev.specs.PartCauses.{HasPartCause}
use Rattle.mg_bits.specs.Pages.{Fits, Looked, Paging, SameFile}
use Rattle.mg_bits.specs.Alike.{WhereSame}
pub use Rattle.mg_bits.specs.Pages.{LookedAt}
pub use Rattle.mg_dev.specs.Bads.{IsNotBad}
use Rattle.mg_defs.specs.Numbers.{four}
use Rattle.mg_dev.specs.Bads.{IsBad}
use Rattle.mg_front.specs.declared.reader.Scan.{Scan}
use Rattle.mg_front.specs.declared.reader.Scan.TheVariants.{Found, Absent, Damaged}
use Rattle.mg_defs.specs.Front.{is_below, Entry, IsFront, front, whole_at}
use Rattle.mg_front.specs.Entries.{entry_of}
use Rattle.mg_front.specs.Looks.{ReadLooks}
use Rattle.mg_front.specs.declared.entry.FrontEntry.{FrontEntry}
use Rattle.mg_dev.specs.declared.part_err.PartErr.{PartErr}
use Rattle.mg_dev.specs.declared.part_err.PartErr.TheVariants.{Device, Memory, Bad}

pub record Fronted : Type 0 where
  pub strings : Paging
  pub places : Paging
  pub width : ℕ
  pub count : ℕ

-- so many places were looked at, where the strings and the places are two parts
abbrev pub ReaderLooks : Fronted → Reads → Reads → ℕ → Type 0
ReaderLooks r before now times = same_part r.strings.part r.places.part ≡ false →
    ReadLooks r.strings.part r.places.part before now times

-- a fact where both stores tell alike and hold the same parts of a reader
abbrev pub WhereSameParts : Fronted → Option Files → Option Files → Type 0 → Type 0
WhereSameParts r one other fact = WhereSame one other r.strings.name r.places.name fact

-- what it keeps agrees with its parts
pub record FrontFits (r : Fronted) (files : Option Files) : Type 0 where
  pub strings : Fits r.strings files
  pub places : Fits r.places files

-- its parts are these entries, front-coded, and the places of the whole ones, for which four bytes do
pub record FrontStands (r : Fronted) (files : Option Files) (es : List Entry) : Type 0 where
  pub told : IsSome files
  pub strings : IsFront r.width (bytes_at files r.strings.name) es
  pub places : bytes_at files r.places.name ≡ whole_at es
  pub count : length es ≡ r.count
  pub small : length (bytes_at files r.strings.name) < 2 ^ 32

-- where the parts stand: the entry of a number, and never that a part is bad
abbrev pub AnswersAt : {T : Type 0} → Result T PartErr → ℕ → ℕ → FrontEntry → List Entry → Type 0
AnswersAt (Ok value) width i out es = slice_get es i ≡ Some (entry_of width out)
AnswersAt (Err Device) width i out es = Unit {0}
AnswersAt (Err Memory) width i out es = ⊥
AnswersAt (Err (Bad bad)) width i out es = ⊥

pub record SameParts (old new : Fronted) : Type 0 where
  pub strings : new.strings.name ≡ old.strings.name
  pub places : new.places.name ≡ old.places.name
  pub strings_part : new.strings.part ≡ old.strings.part
  pub places_part : new.places.part ≡ old.places.part
  pub width : new.width ≡ old.width
  pub count : new.count ≡ old.count

-- four bytes of the places are the place of a block's whole entry
abbrev pub HasPlace : List ℕ → ℕ → ℕ → Type 0
HasPlace bytes block place = take 4 (drop (4 * block) bytes) ≡ four place

-- the places end before that of this block
pub record NoPlace (bad : declared.Bad.Bad) (places : Paging) (files : Option Files) (block : ℕ) : Type 0 where
  pub is : IsBad bad places.part (4 * block) 1 1 0
  pub short : IsSome files → length (bytes_at files places.name) < 4 * block + 4

-- why the place of this block is not told
abbrev pub LacksPlace : PartErr → Paging → Option Files → ℕ → Type 0
LacksPlace Device places files block = Unit {0}
LacksPlace Memory places files block = ⊥
LacksPlace (Bad bad) places files block = NoPlace bad places files block

-- the place of this block, which four bytes hold, or why it is not told
abbrev pub TellsPlace : Result ℕ PartErr → Paging → Option Files → ℕ → Type 0
TellsPlace (Ok place) places files block = (place < 2 ^ 32)
    × (IsSome files → HasPlace (bytes_at files places.name) block place)
TellsPlace (Err refusal) places files block = LacksPlace refusal places files block

-- a call that reads the place of this block
pub record ReadsPlace (old new : Paging) (block : ℕ) (result : Result ℕ PartErr) (files_before files_now : Option Files)
    (reads_before reads_now : Reads) (faults_before faults_now : ℕ) : Type 0
  where
    -- the page that the feed holds agrees with the file
    pub fits : Fits new files_now
    -- it reads the same file
    pub file : SameFile old new
    -- no file changed, and no other part was read
    pub looked : Looked old.part files_before files_now reads_before reads_now faults_before faults_now
    -- the four bytes lie on one page
    pub page : reads_now old.part ≤ reads_before old.part + 1
    -- the place, or where the places end before it
    pub answer : TellsPlace result old files_before block
    -- a refusal has its cause in the device
    pub cause : HasPartCause faults_before faults_now result

-- a call of a reader that looks at so many places
pub record ReaderLooked {T : Type 0} (old new : Fronted) (times : ℕ) (result : Result T PartErr)
    (files_before files_now : Option Files) (reads_before reads_now : Reads) (faults_before faults_now : ℕ) : Type 0
  where
    -- what it keeps agrees with its parts
    pub fits : FrontFits new files_now
    -- it reads the same parts
    pub same : SameParts old new
    -- no file changed, and no other part was read
    pub looked : LookedAt old.strings.part old.places.part files_before files_now reads_before reads_now faults_before
        faults_now
    -- each place takes one page of the places and two of the strings at most
    pub reads : ReaderLooks old reads_before reads_now times
    -- it asks for no memory
    pub memory : result ≢ Err Memory
    -- a refusal has its cause in the device
    pub cause : HasPartCause faults_before faults_now result

-- a string is looked up at so many places: what is answered of the entries, what stands for what it gave, and where it lost an entry
pub record LooksUp {T : Type 0} (old new : Fronted) (times : ℕ) (result : Result T PartErr) (answers : List Entry → Type 0)
    (stands : Option Files → T → Type 0) (lost : Option Files → PartErr → Type 0) (files_before files_now : Option Files)
    (reads_before reads_now : Reads) (faults_before faults_now : ℕ) : Type 0
  where
    -- the reader looks at that many places
    pub step : ReaderLooked old new times result files_before files_now reads_before reads_now faults_before faults_now
    -- where the parts are the front coding of entries, it answers of these
    pub found : (es : List Entry) → FrontStands old files_before es → answers es
    -- whatever the parts hold, it stands there
    pub stood : IsSome files_before → IfOk result (stands files_before)
    -- a refusal tells where an entry is missing
    pub bad : IfErr result (lost files_before)

-- an entry is missing from the place on that is told of this block
pub record NoEntries (bad : declared.Bad.Bad) (r : Fronted) (files : Option Files) (block : ℕ) : Type 0 where
  pub is : IsBad bad r.strings.part bad.at 1 1 0
  pub small : bad.at < 2 ^ 32
  pub told : IsSome files → HasPlace (bytes_at files r.places.name) block bad.at

-- what a refusal tells of this block, where it says that a part is bad
abbrev pub IsLost : PartErr → Fronted → Option Files → ℕ → Type 0
IsLost Device r files block = Unit {0}
IsLost Memory r files block = Unit {0}
IsLost (Bad bad) r files block = NoPlace bad r.places files block ⊎ NoEntries bad r files block

-- and of one of the blocks that the reader knows of
abbrev pub IsLostAmong : PartErr → Fronted → Option Files → Type 0
IsLostAmong refusal r files = (block : ℕ) × (4 * block < r.count) × IsLost refusal r files block

-- no entry has this string
abbrev pub IsAbsent : List ℕ → List Entry → Type 0
IsAbsent string es = (i : ℕ) (e : Entry) → slice_get es i ≡ Some e → e.string ≢ string

-- where the parts stand: the number of the string, with its entry, or none exactly where it is no entry's
abbrev pub AnswersFind : Result (Option ℕ) PartErr → ℕ → List ℕ → FrontEntry → List Entry → Type 0
AnswersFind (Ok (Some i)) width string out es = (slice_get es i ≡ Some (entry_of width out))
    × (take out.length out.string ≡ string)
AnswersFind (Ok None) width string out es = IsAbsent string es
AnswersFind (Err Device) width string out es = Unit {0}
AnswersFind (Err Memory) width string out es = ⊥
AnswersFind (Err (Bad bad)) width string out es = ⊥

-- ---- loading

-- a reader of these files
pub record IsReader (r : Fronted) (strings : List ℕ) (strings_part : Part) (places : List ℕ) (places_part : Part)
    (width count : ℕ) : Type 0 where
  pub strings_is : r.strings.name ≡ strings
  pub strings_part_is : r.strings.part ≡ strings_part
  pub places_is : r.places.name ≡ places
  pub places_part_is : r.places.part ≡ places_part
  pub width_is : r.width ≡ width
  pub count_is : r.count ≡ count

-- four bytes for each whole entry
abbrev pub places_size : ℕ → ℕ
places_size count = 4 * div_ceil count 4

-- what comparing the size of the places answers: a place for each whole entry, or else the two sizes; memory is asked for only where the size is right
abbrev pub AnswersPlaces : {T : Type 0} → Part → ℕ → List ℕ → Result T PartErr → Type 0
AnswersPlaces part wanted bytes (Ok value) = length bytes ≡ wanted
AnswersPlaces part wanted bytes (Err Device) = Unit {0}
AnswersPlaces part wanted bytes (Err Memory) = length bytes ≡ wanted
AnswersPlaces part wanted bytes (Err (Bad bad)) = (length bytes ≢ wanted)
    × IsBad bad part 0 wanted wanted (length bytes)

-- the same by a file and the number of the entries, where the files are told
abbrev pub AnswersPlacesOf : {T : Type 0} → FileRef → ℕ → Option Files → Result T PartErr → Type 0
AnswersPlacesOf file count files result = IsSome files →
    AnswersPlaces file.part (places_size count) (bytes_at files (file_name file)) result

-- a call that compares the size of the places
pub record ExpectsPlaces (file : FileRef) (count : ℕ) (result : Result (Unit {0}) PartErr)
    (files_before files_now : Option Files) (reads_before reads_now : Reads) (faults_before faults_now : ℕ) : Type 0
  where
    -- it is that of a place for each whole entry, or else the two sizes are told
    pub answer : AnswersPlacesOf file count files_before result
    -- it asks for no memory
    pub memory : result ≢ Err Memory
    -- no file changed
    pub files : files_now ≡ files_before
    -- no part was read
    pub reads : SameReads reads_before reads_now
    -- a refusal has its cause in the device
    pub cause : HasPartCause faults_before faults_now result

-- a fact where the files are told and a file holds the places of so many entries
abbrev pub WherePlacesStand : FileRef → Option Files → ℕ → Type 0 → Type 0
WherePlacesStand file files count fact =
    (es : List Entry) → IsSome files → bytes_at files (file_name file) ≡ whole_at es → length es ≡ count → fact

-- ---- looking a string up

-- a fact on entries and one of their blocks of four, where the files are told: a feed's file is the front coding of the entries,
-- and the block begins at this place
abbrev pub AtBlock : Paging → Option Files → ℕ → ℕ → (List Entry → ℕ → Type 0) → Type 0
AtBlock feed files width from fact = IsSome files → (es : List Entry) (block : ℕ) →
    IsFront width (bytes_at files feed.name) es →
    from ≡ length (front (take (4 * block) es)) → fact es block

-- the entry of a number in a block is read, where there is one
abbrev pub GivesEntry : {E : Type 0} → Result Bool E → ℕ → ℕ → FrontEntry → List Entry → ℕ → Type 0
GivesEntry result number width out es block = 4 * block + number < length es →
    IfOk result (λ there. (there ≡ true) × (slice_get es (4 * block + number) ≡ Some (entry_of width out)))

-- the first strings of the blocks before low are not above the string, and those of the others are
pub record Around (es : List Entry) (string : List ℕ) (low : ℕ) : Type 0 where
  pub below : (block : ℕ) (e : Entry) → block < low → slice_get es (4 * block) ≡ Some e →
      is_below string e.string ≡ false
  pub above : (block : ℕ) (e : Entry) → low ≤ block → slice_get es (4 * block) ≡ Some e →
      is_below string e.string ≡ true

-- the last block whose first string is not above the string
abbrev pub AnswersBlock : Result (Option ℕ) PartErr → List ℕ → List Entry → Type 0
AnswersBlock (Ok (Some block)) string es = (4 * block < length es) × Around es string (block + 1)
AnswersBlock (Ok None) string es = Around es string 0
AnswersBlock (Err Device) string es = Unit {0}
AnswersBlock (Err Memory) string es = ⊥
AnswersBlock (Err (Bad bad)) string es = ⊥

-- none of so many entries from a number on has the string
abbrev pub NoneAmong : List Entry → ℕ → ℕ → List ℕ → Type 0
NoneAmong es from count string = (k : ℕ) (e : Entry) → k < count → slice_get es (from + k) ≡ Some e → e.string ≢ string

-- what reading so many entries from a whole one on answers
abbrev pub AnswersScan : Scan → ℕ → ℕ → List ℕ → ℕ → FrontEntry → List Entry → Type 0
AnswersScan (Found number) from count string width out es = (number < count)
    × (slice_get es (from + number) ≡ Some (entry_of width out)) × (take out.length out.string ≡ string)
AnswersScan Absent from count string width out es = NoneAmong es from count string
AnswersScan Damaged from count string width out es = ⊥

-- so many entries of a block are read for a string, where there are so many
abbrev pub ScansBlock : {E : Type 0} → Result Scan E → ℕ → List ℕ → ℕ → FrontEntry → List Entry → ℕ → Type 0
ScansBlock result most string width out es block = 4 * block + most ≤ length es →
    IfOk result (λ scan. AnswersScan scan (4 * block) most string width out es)

-- the number of the string among those of a block
abbrev pub AnswersIn : Result (Option ℕ) PartErr → ℕ → ℕ → List ℕ → FrontEntry → List Entry → Type 0
AnswersIn (Ok (Some i)) block width string out es = (slice_get es i ≡ Some (entry_of width out))
    × (take out.length out.string ≡ string)
AnswersIn (Ok None) block width string out es = NoneAmong es (4 * block) 4 string
AnswersIn (Err Device) block width string out es = Unit {0}
AnswersIn (Err Memory) block width string out es = ⊥
AnswersIn (Err (Bad bad)) block width string out es = ⊥

-- a string that was found is one of so many
abbrev pub IsInBlock : Scan → ℕ → Type 0
IsInBlock (Found number) most = number < most
IsInBlock Absent most = Unit {0}
IsInBlock Damaged most = Unit {0}
