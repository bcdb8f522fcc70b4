-- Strings that rise, front-coded, each with a field.
use Rattle.std.specs.Prelude.{◌≡◌, ◌≢◌, ◌<◌, ◌≤◌, ◌+◌, ◌-◌, ◌%◌, ◌==◌, ◌&&◌, ◌||◌, ◌++◌, ℕ, Bool, true, false, List, [], ◌∷◌, length, take, drop, slice_get, nat_lt, nat_le, if◌then◌else◌, None, Some}
use Rattle.std.specs.declared.option.Option.{Option}
use Rattle.std.specs.Ordering.{nat_cmp, is_lt}
use Rattle.std.specs.Cmp.Lexicographic.{slice_cmp}
use Rattle.mg_defs.specs.Limits.{piece_bytes}
use Rattle.mg_defs.specs.Numbers.{four}

pub record Entry : Type 0 where
  pub string : List ℕ
  pub field : List ℕ

-- a string comes before another by its bytes
abbrev pub is_below : List ℕ → List ℕ → Bool
is_below a b = is_lt (slice_cmp nat_cmp a b)

-- the length of the longest prefix that two strings share
unfoldable pub shared : List ℕ → List ℕ → ℕ
shared [] ys = 0
shared (x ∷ xs) [] = 0
shared (x ∷ xs) (y ∷ ys) = if x == y then shared xs ys + 1 else 0

-- the bytes of the entry of a number, after the string before it
unfoldable pub entry_bytes : ℕ → List ℕ → Entry → List ℕ
entry_bytes i before e =
    if i % 4 == 0 then length e.string ∷ (e.string ++ e.field)
    else shared before e.string ∷ (length e.string - shared before e.string) ∷
    (drop (shared before e.string) e.string ++ e.field)

-- an entry that may have this number and come after this string
pub record IsEntry (width i : ℕ) (before : List ℕ) (e : Entry) : Type 0 where
  pub short : length e.string ≤ piece_bytes
  pub field : length e.field ≡ width
  pub above : (i == 0 || is_below before e.string) ≡ true

-- entries from a number on, after the string before them
abbrev pub AreEntries : ℕ → ℕ → List ℕ → List Entry → Type 0
AreEntries width i before [] = Unit {0}
AreEntries width i before (e ∷ es) = IsEntry width i before e × AreEntries width (i + 1) e.string es

unfoldable pub front_from : ℕ → List ℕ → List Entry → List ℕ
front_from i before [] = []
front_from i before (e ∷ es) = entry_bytes i before e ++ front_from (i + 1) e.string es

-- the bytes of all entries
abbrev pub front : List Entry → List ℕ
front es = front_from 0 [] es

-- the last string, or the one before
abbrev pub last_string : List ℕ → List Entry → List ℕ
last_string before [] = before
last_string before (e ∷ es) = last_string e.string es

unfoldable pub places_from : ℕ → List ℕ → ℕ → List Entry → List ℕ
places_from i before at [] = []
places_from i before at (e ∷ es) = (if i % 4 == 0 then four at else [])
    ++ places_from (i + 1) e.string (at + length (entry_bytes i before e)) es

-- the place of each whole entry
abbrev pub whole_at : List Entry → List ℕ
whole_at es = places_from 0 [] 0 es

-- the bytes are these entries, front-coded
pub record IsFront (width : ℕ) (bytes : List ℕ) (es : List Entry) : Type 0 where
  pub entries : AreEntries width 0 [] es
  pub bytes_are : bytes ≡ front es

-- ---- reading

-- an entry that was read, and how many bytes it takes
pub record Found : Type 0 where
  pub entry : Entry
  pub size : ℕ

-- what follows a shared prefix rises above what followed it before
abbrev pub rises_after_prefix : List ℕ → List ℕ → Bool
rises_after_prefix before [] = false
rises_after_prefix [] (y ∷ ys) = true
rises_after_prefix (x ∷ xs) (y ∷ ys) = nat_lt x y

abbrev pub read_whole : ℕ → ℕ → List ℕ → List ℕ → Option Found
read_whole width i before [] = None
read_whole width i before (n ∷ bytes) =
    if nat_le n piece_bytes && (nat_le (n + width) (length bytes) && (i == 0 || is_below before (take n bytes)))
    then Some (record {
      entry = record { string = take n bytes; field = take width (drop n bytes) };
      size = n + width + 1;
    })
    else None

abbrev pub read_cut : ℕ → List ℕ → List ℕ → Option Found
read_cut width before [] = None
read_cut width before (k ∷ []) = None
read_cut width before (k ∷ n ∷ bytes) =
    if nat_le k (length before) && (nat_le (k + n) piece_bytes
    && (nat_le (n + width) (length bytes) && rises_after_prefix (drop k before) (take n bytes)))
    then Some (record {
      entry = record { string = take k before ++ take n bytes; field = take width (drop n bytes) };
      size = n + width + 2;
    })
    else None

-- the entry of a number that stands first, after the string before it
unfoldable pub read_entry : ℕ → ℕ → List ℕ → List ℕ → Option Found
read_entry width i before bytes = if i % 4 == 0 then read_whole width i before bytes else read_cut width before bytes

-- what was read stands first
pub record StandsFirst (width i : ℕ) (before bytes : List ℕ) (it : Found) : Type 0 where
  pub entry : IsEntry width i before it.entry
  pub front : bytes ≡ entry_bytes i before it.entry ++ drop it.size bytes
  pub size : it.size ≡ length (entry_bytes i before it.entry)

-- the bytes do not begin with an entry of this number, for any string above the one before and any field
abbrev pub NoEntry : ℕ → ℕ → List ℕ → List ℕ → Type 0
NoEntry width i before bytes = (e : Entry) (rest : List ℕ) → IsEntry width i before e →
    bytes ≢ entry_bytes i before e ++ rest

-- an entry that was written before a rest is read, with its size
abbrev pub IsReadBack : ℕ → ℕ → List ℕ → Entry → List ℕ → Type 0
IsReadBack width i before e rest = read_entry width i before (entry_bytes i before e ++ rest)
    ≡ Some (record { entry = e; size = length (entry_bytes i before e) })

-- where the one entry stands at a place, and the other at a later one
abbrev pub WhereInOrder : List Entry → ℕ → ℕ → Entry → Entry → Type 0 → Type 0
WhereInOrder es j k d e fact = j < k → slice_get es j ≡ Some d → slice_get es k ≡ Some e → fact
