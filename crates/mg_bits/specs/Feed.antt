-- What contracts see of a device and of a feed, and what a reading call does to both.
use Rattle.std.specs.Prelude.{◌≡◌, ◌≢◌, ◌≤◌, ◌<◌, ◌+◌, ◌-◌, ◌*◌, ◌/◌, ◌%◌, ◌^◌, ◌==◌, ℕ, List, length, min, max, Some, None, IfSome, if◌then◌else◌, nat_lt}
use Rattle.std.specs.declared.option.Option.{Option}
use Rattle.mg_dev.specs.declared.part.Part.{Part}
use Rattle.mg_dev.specs.Files.{Files, Reads, bytes_at}
use Rattle.mg_defs.specs.Bits.{Bits, FromPlace}

-- what contracts see of a device: the files that it tells, how often it failed, and how often each part was read
pub record Device : Type 0 where
  pub files : Option Files
  pub faults : ℕ
  pub reads : Reads

-- what contracts see of a feed
pub record Feeding : Type 0 where
  -- the bytes that it reads, by what the device holds, where they are told
  pub source : Option Files → Option (List ℕ)
  -- the part whose count its reads raise
  pub part : Option Part
  -- the bytes of a page
  pub page : ℕ
  -- the number of the page that it holds
  pub held : Option ℕ
  -- how often it read; the count stands still at its end
  pub count : ℕ

pub record IsPageLength (bytes : ℕ) : Type 0 where
  pub some : 0 < bytes
  pub whole : bytes % 64 ≡ 0

-- 0 where the page is held, 1 where it has to be read
abbrev pub lacks : Option ℕ → ℕ → ℕ
lacks None page = 1
lacks (Some held) page = if held == page then 0 else 1

-- the page of a bit place
abbrev pub page_of : ℕ → ℕ → ℕ
page_of bytes place = place / (8 * bytes)

-- how many pages of this length have a bit of a range and are not held
abbrev pub to_read : ℕ → Option ℕ → ℕ → ℕ → ℕ
to_read page held from to = if nat_lt from to
    then page_of page (to - 1) - page_of page from + lacks held (page_of page from)
    else 0

-- the page that is held once a range of bits was read
abbrev pub held_after : ℕ → Option ℕ → ℕ → ℕ → Option ℕ
held_after page held from to = if nat_lt from to then Some (page_of page (to - 1)) else held

-- a count that rose so often, and stands still at its end
abbrev pub raised : ℕ → ℕ → ℕ
raised count times = max count (min (count + times) (2 ^ 64 - 1))

-- No count of reads falls, and none rises but that of the feed's own part.
pub record ReadsOwn (own : Option Part) (before now : Reads) : Type 0 where
  pub later : (part : Part) → before part ≤ now part
  pub others : (part : Part) → own ≢ Some part → now part ≡ before part

-- The device's count of the feed's part rose exactly as often as the feed counted a read, unless the feed's count stands at its end.
pub record Counted (old new : Feeding) (before now : Reads) : Type 0 where
  pub later : old.count ≤ new.count
  pub exact : (part : Part) → old.part ≡ Some part → new.count < 2 ^ 64 - 1 →
      now part ≡ raised (before part) (new.count - old.count)

-- what every reading call keeps
pub record Calm (old new : Feeding) (before now : Device) : Type 0 where
  pub source : new.source ≡ old.source
  pub part : new.part ≡ old.part
  pub page : new.page ≡ old.page
  pub files : now.files ≡ before.files
  pub faults : before.faults ≤ now.faults
  pub reads : ReadsOwn old.part before.reads now.reads
  pub counted : Counted old new before.reads now.reads

-- The own count, the device's and the feed's, rises by at most the pages that have a bit of a range, less the first of them where it is held.
pub record ReadsWithin (old new : Feeding) (before now : Device) (from to : ℕ) : Type 0 where
  pub device : (part : Part) → old.part ≡ Some part → now.reads part
      ≤ before.reads part + to_read old.page old.held from to
  pub feed : new.count ≤ old.count + to_read old.page old.held from to

-- the page that is held has all bits of a range that begins at a place
pub record HoldsBits (feed : Feeding) (place count : ℕ) : Type 0 where
  pub first : feed.held ≡ Some (page_of feed.page place)
  pub last : page_of feed.page (place + count - 1) ≡ page_of feed.page place

-- the page that is held has all bits of a range of the bytes that are told
pub record HasBits (feed : Feeding) (files : Option Files) (place count : ℕ) : Type 0 where
  pub holds : HoldsBits feed place count
  pub bytes : List ℕ
  pub told : feed.source files ≡ Some bytes
  pub within : place + count ≤ 8 * length bytes

-- a range of bits was read
pub record Read (old new : Feeding) (before now : Device) (from to : ℕ) : Type 0 where
  pub calm : Calm old new before now
  pub pages : ReadsWithin old new before now from to
  pub held : new.held ≡ held_after old.page old.held from to

-- some of a range of bits was read, and then the call was refused
pub record ReadPart (old new : Feeding) (before now : Device) (from to : ℕ) : Type 0 where
  pub calm : Calm old new before now
  pub pages : ReadsWithin old new before now from to

-- what relates a feed and its device before a call to those after it
abbrev pub FeedStep : Type 1
FeedStep = (old new : Feeding) (before now : Device) → Type 0

-- what relates them by a range of bits too, at this range
abbrev pub OnRange : ℕ → ℕ → ((old new : Feeding) (before now : Device) (from to : ℕ) → Type 0) → FeedStep
OnRange from to step old new before now = step old new before now from to

-- a page that is held and has this bit place stays held
abbrev pub KeepsPage : Feeding → Feeding → ℕ → Type 0
KeepsPage old new place = old.held ≡ Some (page_of old.page place) → new.held ≡ old.held

-- whatever files a feed agrees with, its bytes are as an answer says
abbrev pub ToldBytes : {T : Type 0} → Feeding → (Option Files → Type 0) → Option T → (T → List ℕ → Type 0) → Type 0
ToldBytes feed fits result says = (files : Option Files) → fits files →
    IfSome result (λ answer. IfSome (feed.source files) (says answer))

-- whatever files a feed agrees with, its bits from a place on are as an answer says
abbrev pub ToldBits : {T : Type 0} → Feeding → (Option Files → Type 0) → ℕ → Option T → (T → Bits → Type 0) → Type 0
ToldBits feed fits place result says = (files : Option Files) → fits files →
    IfSome result (λ answer. FromPlace (feed.source files) place (says answer))

-- the bytes of a file, where the store tells its files; a missing file has none
abbrev pub told_at : Option Files → List ℕ → Option (List ℕ)
told_at None name = None
told_at (Some files) name = Some (bytes_at (Some files) name)

-- what a store shows
abbrev pub of_store : Option Files → ℕ → Reads → Device
of_store files faults reads = record { files = files; faults = faults; reads = reads }

-- what a store shows, by the functions that tell its files, its reads and its faults
abbrev pub device_of : {X : Type 0} → (X → Option Files) → (X → Reads) → (X → ℕ) → X → Device
device_of files reads faults store = of_store (files store) (faults store) (reads store)

-- a feed over a file of a store
abbrev pub over_file : List ℕ → Part → ℕ → Option ℕ → ℕ → Feeding
over_file name part page held count = record {
  source = λ files. told_at files name;
  part = Some part;
  page = page;
  held = held;
  count = count;
}

-- a feed over bytes in memory
abbrev pub over_slice : List ℕ → Feeding
over_slice bytes = record { source = λ files. Some bytes; part = None; page = 2 ^ 63; held = Some 0; count = 0 }

abbrev pub no_device : Device
no_device = record { files = None; faults = 0; reads = λ part. 0 }
