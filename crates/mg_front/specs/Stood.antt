-- What stands in the parts of a reader for what it answered, whatever else they hold.
use Rattle.std.specs.Prelude.{◌≡◌, ◌≢◌, ◌≤◌, ◌<◌, ◌+◌, ◌-◌, ◌*◌, ◌/◌, ◌%◌, ℕ, zero, suc, Bool, true, false, List, [], drop, Some, None}
use Rattle.std.specs.Int.{div_ceil}
use Rattle.std.specs.declared.option.Option.{Option}
use Rattle.mg_dev.specs.Files.{Files, bytes_at}
use Rattle.mg_defs.specs.Front.{Entry, is_below, read_entry}
use Rattle.mg_front.specs.Entries.{entry_of, string_of}
use Rattle.mg_front.specs.Reading.{Fronted, HasPlace}
use Rattle.mg_front.specs.declared.entry.FrontEntry.{FrontEntry}
use Rattle.mg_front.specs.declared.reader.Scan.{Scan}
use Rattle.mg_front.specs.declared.reader.Scan.TheVariants.{Found, Absent, Damaged}

-- The entry of a number is read from a block that begins at this place, behind each one before it; the next one is to stand there.
abbrev pub IsRead : ℕ → List ℕ → ℕ → ℕ → Entry → ℕ → Type 0
IsRead width bytes from zero e next = (size : ℕ)
    × (read_entry width 0 [] (drop from bytes) ≡ Some (record { entry = e; size = size })) × (next ≡ from + size)
IsRead width bytes from (suc n) e next = (before : Entry) × (at : ℕ) × (size : ℕ)
    × IsRead width bytes from n before at
    × (read_entry width (suc n) before.string (drop at bytes) ≡ Some (record { entry = e; size = size }))
    × (next ≡ at + size)

-- it is read, wherever the next one is to stand
abbrev pub IsReadAt : ℕ → List ℕ → ℕ → ℕ → Entry → Type 0
IsReadAt width bytes from number e = (next : ℕ) × IsRead width bytes from number e next

-- The places tell where a block begins, and the entry of this number in it is read from there.
pub record EntryStands (r : Fronted) (files : Option Files) (block number : ℕ) (e : Entry) : Type 0 where
  pub from : ℕ
  pub place : HasPlace (bytes_at files r.places.name) block from
  pub read : IsReadAt r.width (bytes_at files r.strings.name) from number e

-- the whole entry of a block stands, and whether a string is below it
abbrev pub BeginsSo : Fronted → Option Files → ℕ → List ℕ → Bool → Type 0
BeginsSo r files block string below = (e : Entry) × EntryStands r files block 0 e × (is_below string e.string ≡ below)

-- the entries of a block stand, and none of them has the string
abbrev pub NoneStands : Fronted → Option Files → ℕ → List ℕ → Type 0
NoneStands r files block string = (k : ℕ) → k < 4 → 4 * block + k < r.count → (e : Entry)
    × EntryStands r files block k e × (e.string ≢ string)

-- No entry has the string, as the entries around it show: so many blocks begin at or before it.
pub record AbsentStands (r : Fronted) (files : Option Files) (string : List ℕ) : Type 0 where
  pub low : ℕ
  pub within : low ≤ div_ceil r.count 4
  -- the last of them does, and no entry of it has the string
  pub below : 0 < low → BeginsSo r files (low - 1) string false
  pub none : 0 < low → NoneStands r files (low - 1) string
  -- the block behind them begins above it
  pub above : low < div_ceil r.count 4 → BeginsSo r files low string true

-- what stands for what looking a string up answered
abbrev pub FindStands : Fronted → Option Files → List ℕ → FrontEntry → Option ℕ → Type 0
FindStands r files string out (Some i) = (i < r.count) × EntryStands r files (i / 4) (i % 4) (entry_of r.width out)
    × (string_of out ≡ string)
FindStands r files string out None = AbsentStands r files string

-- ---- on the way

-- for what reading a block for a string answered
abbrev pub ScanStands : ℕ → List ℕ → ℕ → ℕ → List ℕ → FrontEntry → Scan → Type 0
ScanStands width bytes from most string out (Found number) = IsReadAt width bytes from number (entry_of width out)
    × (string_of out ≡ string)
ScanStands width bytes from most string out Absent = (k : ℕ) → k < most → (e : Entry)
    × IsReadAt width bytes from k e × (e.string ≢ string)
ScanStands width bytes from most string out Damaged = Unit {0}

-- for the block that was chosen
abbrev pub BlockStands : Fronted → Option Files → List ℕ → Option ℕ → Type 0
BlockStands r files string (Some block) = BeginsSo r files block string false
    × (block + 1 < div_ceil r.count 4 → BeginsSo r files (block + 1) string true)
BlockStands r files string None = 0 < div_ceil r.count 4 → BeginsSo r files 0 string true

-- for what looking into that block answered
abbrev pub InStands : Fronted → Option Files → ℕ → List ℕ → FrontEntry → Option ℕ → Type 0
InStands r files block string out (Some i) = FindStands r files string out (Some i)
InStands r files block string out None = NoneStands r files block string
