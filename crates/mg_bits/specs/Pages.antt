-- What contracts see of a feed that keeps a page of a file, and what its calls do.
use Rattle.std.specs.Prelude.{◌≡◌, ◌≤◌, ◌<◌, ◌+◌, ◌*◌, ◌++◌, ℕ, Bool, true, false, List, length, take, drop, None, Some}
use Rattle.std.specs.Option.{IsSome}
use Rattle.std.specs.declared.option.Option.{Option}
use Rattle.mg_dev.specs.declared.part.Part.{Part}
use Rattle.mg_dev.specs.Files.{Files, Reads, bytes_at}
use Rattle.mg_dev.specs.Names.{same_part}
use Rattle.mg_defs.specs.Bits.{Begins, bits_of, digits}
use Rattle.mg_bits.specs.Feed.{Feeding, FeedStep, device_of, over_file}

-- a reader of the pages of one file: the file's full name and part, the number of the page that it holds, that page's bytes, and how often it read
pub record Paging : Type 0 where
  pub name : List ℕ
  pub part : Part
  pub held : Option ℕ
  pub page : List ℕ
  pub count : ℕ

-- as a feed, with pages of so many bytes
abbrev pub feeding_of : ℕ → Paging → Feeding
feeding_of bytes feed = over_file feed.name feed.part bytes feed.held feed.count

-- a step of a feed and its device, by a reader of pages of 4,096 bytes and its store
abbrev pub AsFeed : {X : Type 0} → (X → Option Files) → (X → Reads) → (X → ℕ) → Paging → Paging → X → X → FeedStep →
    Type 0
AsFeed files reads faults old new before now step =
    step (feeding_of 4096 old) (feeding_of 4096 new) (device_of files reads faults before)
    (device_of files reads faults now)

-- a held page of so many bytes is that of the bytes of a file
abbrev pub IsPageIn : ℕ → Option ℕ → List ℕ → List ℕ → Type 0
IsPageIn bytes None page file = Unit {0}
IsPageIn bytes (Some number) page file = page ≡ take bytes (drop (bytes * number) file)

-- a kept page of so many bytes begins at this place; where none is kept there are no bytes
abbrev pub IsFirst : Option ℕ → ℕ → ℕ → ℕ → Type 0
IsFirst held bytes first count = (held ≡ None → count ≡ 0)
    × ((number : ℕ) → held ≡ Some number → first ≡ bytes * number)

-- a held page is that of the bytes
abbrev pub IsPageOf : Option ℕ → List ℕ → List ℕ → Type 0
IsPageOf held page file = IsPageIn 4096 held page file

-- the page that it holds agrees with the file, where the files are told
pub record Fits (feed : Paging) (files : Option Files) : Type 0 where
  pub held : IsSome files → IsPageOf feed.held feed.page (bytes_at files feed.name)

-- it reads the same file
pub record SameFile (old new : Paging) : Type 0 where
  pub name : new.name ≡ old.name
  pub part : new.part ≡ old.part

-- a call that only reads, and that reads this part alone
pub record Looked (part : Part) (files_before files_now : Option Files) (reads_before reads_now : Reads)
    (faults_before faults_now : ℕ) : Type 0 where
  pub files : files_now ≡ files_before
  pub faults : faults_before ≤ faults_now
  pub later : (p : Part) → reads_before p ≤ reads_now p
  pub others : (p : Part) → same_part p part ≡ false → reads_now p ≡ reads_before p

-- a call that only reads, and that reads these two parts alone
pub record LookedAt (one other : Part) (files_before files_now : Option Files) (reads_before reads_now : Reads)
    (faults_before faults_now : ℕ) : Type 0 where
  pub files : files_now ≡ files_before
  pub faults : faults_before ≤ faults_now
  pub later : (p : Part) → reads_before p ≤ reads_now p
  pub others : (p : Part) → same_part p one ≡ false → same_part p other ≡ false → reads_now p ≡ reads_before p

-- the buffer has the bytes from a place on, or they end before it is full
abbrev pub IsFilled : Bool → List ℕ → ℕ → List ℕ → Type 0
IsFilled true buf at bytes = buf ≡ take (length buf) (drop at bytes)
IsFilled false buf at bytes = length (drop at bytes) < length buf

-- behind the first of a buffer's bytes, which stay, stand so many of these
abbrev pub CopiedBehind : ℕ → ℕ → List ℕ → List ℕ → List ℕ → Type 0
CopiedBehind from count old new bytes = take (from + count) new ≡ take from old ++ take count bytes

-- the eight bytes from an index on are these bits, as a number
pub record IsWordIn (bytes : List ℕ) (index word : ℕ) : Type 0 where
  pub within : index + 8 ≤ length bytes
  pub bits : Begins (digits 64 word) (bits_of (drop index bytes))
