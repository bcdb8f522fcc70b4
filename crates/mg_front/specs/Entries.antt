-- What contracts see of an entry that was read.
use Rattle.std.specs.Prelude.{◌≡◌, ◌≤◌, ◌<◌, ◌+◌, ◌-◌, ◌++◌, ◌∷◌, ◌⊎◌, ℕ, Bool, true, false, List, length, take, drop, slice_get, None, Some, IfOk}
use Rattle.std.specs.Prelude.{◌^◌, IfSome, zero, suc}
use Rattle.std.specs.Option.{IsSome}
use Rattle.std.specs.declared.option.Option.{Option}
use Rattle.std.specs.declared.result.Result.{Result}
use Rattle.mg_dev.specs.declared.device.Failed.{Failed}
use Rattle.mg_dev.specs.Files.{Files, Reads, bytes_at}
use Rattle.mg_bits.specs.Pages.{Fits, Paging}
use Rattle.mg_front.specs.declared.entry.EntryAt.{EntryAt}
use Rattle.mg_front.specs.declared.entry.FrontEntry.{FrontEntry}
use Rattle.mg_front.specs.declared.entry.Head.{Head}
use Rattle.mg_front.specs.Looks.{ReadOn, ReadsUpTo}
use Rattle.mg_defs.specs.Front.{Entry, Found, entry_bytes, read_cut}

abbrev pub string_of : FrontEntry → List ℕ
string_of e = take e.length e.string

-- an entry's string and its field of this width
abbrev pub entry_of : ℕ → FrontEntry → Entry
entry_of width e = record { string = take e.length e.string; field = take width e.field }

-- what was read, where something was
abbrev pub found_of : ℕ → FrontEntry → Option ℕ → Option Found
found_of width e None = None
found_of width e (Some size) =
    Some (record { entry = record { string = take e.length e.string; field = take width e.field }; size = size })

-- what was found from a place of a feed's file on is what reading these bytes finds, where the files are told
abbrev pub FoundFrom : {E : Type 0} → Paging → Option Files → ℕ → (List ℕ → Option Found) → Result (Option ℕ) E →
    (Option ℕ → Option Found) → Type 0
FoundFrom feed files at reading result found = IsSome files →
    IfOk result (λ size. reading (drop at (bytes_at files feed.name)) ≡ found size)

-- an entry may be read there through a feed
pub record IsReadable (feed : Paging) (entry : EntryAt) (files : Option Files) : Type 0 where
  -- the page that the feed holds agrees with the file
  pub fits : Fits feed files
  -- the entry's field has room
  pub width : entry.width ≤ 24
  -- its place is far from the greatest number
  pub place : entry.place < 2 ^ 62

-- an entry of so many bytes was read on from its place, and the next one stands behind it
pub record PassedEntry (old new : Paging) (place : ℕ) (before now : Reads) (size : ℕ) : Type 0 where
  pub most : size ≤ 281
  pub read_on : ReadOn old new before now place (place + size)

-- a call that reads the entry at a place through a feed, by what these bytes mean
pub record ReadsEntry (old new : Paging) (entry : EntryAt) (meaning : List ℕ → Option Found) (out : FrontEntry)
    (result : Result (Option ℕ) Failed) (files_before files_now : Option Files) (reads_before reads_now : Reads)
    (faults_before faults_now : ℕ) : Type 0
  where
    -- it reads no byte behind the longest entry
    pub read : ReadsUpTo old new entry.place (entry.place + 281) result files_before files_now reads_before reads_now
        faults_before faults_now
    -- what it found is what the bytes from the place on mean
    pub told : FoundFrom old files_before entry.place meaning result (found_of entry.width out)
    -- where it found an entry, it read all of it and no page twice
    pub passed : IfOk result (λ size. IfSome size (PassedEntry old new entry.place reads_before reads_now))

-- the bytes of an entry that shares so many bytes with the string before
abbrev pub cut_bytes : ℕ → List ℕ → List ℕ → List ℕ
cut_bytes from string field = from ∷ (length string - from) ∷ (drop from string ++ field)

-- the bytes of the entry of a number, after the string before, by its string and its field
abbrev pub coded_entry : ℕ → List ℕ → List ℕ → List ℕ → List ℕ
coded_entry number before string field = entry_bytes number before (record { string = string; field = field })

-- so many bytes came after the first ones, or the bytes end before
abbrev pub IsPut : Bool → List ℕ → List ℕ → ℕ → ℕ → ℕ → List ℕ → Type 0
IsPut true old new from count at bytes = (take (from + count) new ≡ take from old ++ take count (drop at bytes))
    × (count ≤ length (drop at bytes))
IsPut false old new from count at bytes = length (drop at bytes) < count

-- a head shares no more than the string before has, and the entry's string is no longer than 255 bytes
pub record HasRoom (head : Head) (before : List ℕ) : Type 0 where
  pub shared : head.shared ≤ length before
  pub all : head.shared + head.more ≤ 255

-- a head of two bytes behind a string, where they have room
abbrev pub HeadAfter : Option Head → List ℕ → ℕ → ℕ → Type 0
HeadAfter (Some head) before shared more = (head.shared ≡ shared) × (head.more ≡ more) × HasRoom head before
HeadAfter None before shared more = (length before < shared) ⊎ (255 < shared + more)

-- the two bytes from a place on are a head, or no entry that is not whole stands there
abbrev pub HeadAt : Option Head → List ℕ → ℕ → List ℕ → Type 0
HeadAt (Some head) before at bytes = (Some head.shared ≡ slice_get bytes at)
    × (Some head.more ≡ slice_get bytes (at + 1))
HeadAt None before at bytes = (width : ℕ) → read_cut width before (drop at bytes) ≡ None

-- the entry's string is as long as its head tells
pub record IsAsLong (head : Head) (e : FrontEntry) : Type 0 where
  pub length_is : e.length ≡ head.shared + head.more
  pub shared_there : head.shared ≤ length (string_of e)

-- the bytes behind a head were put into an entry: those of its string behind the bytes of the old one that are shared, and then those of its field
pub record PutBehind (head : Head) (width : ℕ) (old string field : List ℕ) (at : ℕ) (bytes : List ℕ) : Type 0 where
  pub string_is : take (head.shared + head.more) string ≡ take head.shared old ++ take head.more (drop at bytes)
  pub string_there : head.more ≤ length (drop at bytes)
  pub field_is : take width field ≡ take width (drop (at + head.more) bytes)
  pub field_there : width ≤ length (drop (at + head.more) bytes)

-- they were put there, or the bytes end before
abbrev pub IsBehind : Bool → Head → ℕ → List ℕ → List ℕ → List ℕ → ℕ → List ℕ → Type 0
IsBehind true head width old string field at bytes = PutBehind head width old string field at bytes
IsBehind false head width old string field at bytes = length (drop at bytes) < head.more + width

-- what stands behind a head was taken: the string shares its first bytes with the last one, which it becomes
pub record TookBehind (head : Head) (width : ℕ) (behind : List ℕ) (last_before last_now out : FrontEntry) : Type 0 where
  pub string_is : string_of out ≡ take head.shared (string_of last_before) ++ take head.more behind
  pub field_is : take width out.field ≡ take width (drop head.more behind)
  pub last_is : string_of last_now ≡ string_of out

-- an entry of so many bytes was taken of bytes of this length, whose meaning it is, and the last string is its own
pub record TookEntry (width : ℕ) (meaning : Option Found) (long : ℕ) (last_now out : FrontEntry) (size : ℕ) : Type 0 where
  pub told : meaning ≡ found_of width out (Some size)
  pub last_is : string_of last_now ≡ string_of out
  pub within : size ≤ long
  pub most : size ≤ 281

-- an entry of so many bytes was taken of bytes of this length, or none stands first and the last string stayed
abbrev pub TookHeld : ℕ → Option Found → ℕ → FrontEntry → FrontEntry → FrontEntry → ℕ → Type 0
TookHeld width meaning long last_before last_now out zero = (meaning ≡ None) × (last_now ≡ last_before)
TookHeld width meaning long last_before last_now out (suc n) = TookEntry width meaning long last_now out (suc n)
