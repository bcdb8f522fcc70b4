-- The head of a set: the bytes of each version, and what is damaged first in bytes that are no head.
use Rattle.std.specs.Prelude.{◌≡◌, ◌≤◌, ◌<◌, ◌+◌, ◌-◌, ◌^◌, ◌==◌, ◌||◌, ◌++◌, ℕ, Bool, List, [], ◌∷◌, length, slice_index, nat_lt, find, codes, if◌then◌else◌, None, Some}
use Rattle.std.specs.declared.option.Option.{Option}
use Rattle.std.specs.Int.{div_ceil}
use Rattle.mg_defs.specs.Limits.{Limits, limits, version_1, version_2, least_cap, greatest_cap}
use Rattle.mg_defs.specs.Numbers.{four, eight, four_at, eight_at}

pub record Head : Type 0 where
  -- 1 or 2
  pub version : ℕ
  pub documents : ℕ
  -- how many distinct pieces of each kind
  pub words : ℕ
  pub others : ℕ
  pub terms : ℕ
  -- how many occurrences a full run was made of
  pub cap : ℕ
  pub open_end : Bool
  -- how many bytes the collection has
  pub collection : ℕ
  pub occurrences : ℕ
  pub runs : ℕ
  pub text_bytes : ℕ
  pub post_bytes : ℕ
  pub skip_count : ℕ

-- a head's first eight bytes: MGROWv, the version's digit and the end of a line, for version 1 or 2
abbrev pub magic : ℕ → List ℕ
magic version = codes "MGROWv" ++ ((48 + version) ∷ 10 ∷ [])

-- a truth value as a number
abbrev pub as_number : Bool → ℕ
as_number b = if b then 1 else 0

-- the fields that stand at one place in every version
abbrev pub first_fields : Head → List ℕ
first_fields h = magic h.version ++ four h.documents ++ four h.words ++ four h.others ++ four h.terms ++ four h.cap
    ++ four (as_number h.open_end)

-- version 1: 64 bytes
abbrev pub narrow_bytes : Head → List ℕ
narrow_bytes h = first_fields h ++ four h.collection ++ four h.occurrences ++ four h.runs ++ four h.text_bytes
    ++ eight h.post_bytes ++ eight h.skip_count

-- version 2: 80 bytes
abbrev pub wide_bytes : Head → List ℕ
wide_bytes h = first_fields h ++ eight h.collection ++ eight h.occurrences ++ four h.runs ++ four 0
    ++ eight h.text_bytes ++ eight h.post_bytes ++ eight h.skip_count

unfoldable pub head_bytes : Head → List ℕ
head_bytes h = if h.version == 1 then narrow_bytes h else wide_bytes h

-- ---- ranges

-- how many runs so many occurrences make, where a full one takes cap of them
abbrev pub run_count : ℕ → ℕ → ℕ
run_count occurrences cap = div_ceil occurrences cap

-- each field is in the range of its version, 1 or 2
pub record IsWithin (h : Head) : Type 0 where
  pub version_low : 1 ≤ h.version
  pub version_high : h.version ≤ 2
  pub documents : h.documents ≤ (limits h.version).documents
  pub words : h.words ≤ (limits h.version).pieces
  pub others : h.others ≤ (limits h.version).pieces
  pub terms : h.terms ≤ h.words
  pub cap_low : least_cap ≤ h.cap
  pub cap_high : h.cap ≤ greatest_cap
  pub collection : h.collection ≤ (limits h.version).collection
  pub occurrences : h.occurrences ≤ h.collection
  pub runs : h.runs ≡ run_count h.occurrences h.cap
  pub text_bytes : h.text_bytes < (if h.version == 1 then 2 ^ 32 else 2 ^ 64)
  pub post_bytes : h.post_bytes < 2 ^ 64
  pub skip_count : h.skip_count ≤ h.occurrences

-- these bytes are that head, of a version from low to high
pub record IsHead (low high : ℕ) (bytes : List ℕ) (h : Head) : Type 0 where
  pub bytes_are : bytes ≡ head_bytes h
  pub within : IsWithin h
  pub from : low ≤ h.version
  pub to : h.version ≤ high

-- ---- read back

-- the fields of version 1, as bytes have them
abbrev pub narrow_head : List ℕ → Head
narrow_head bytes = record {
  version = 1;
  documents = four_at bytes 8;
  words = four_at bytes 12;
  others = four_at bytes 16;
  terms = four_at bytes 20;
  cap = four_at bytes 24;
  open_end = four_at bytes 28 == 1;
  collection = four_at bytes 32;
  occurrences = four_at bytes 36;
  runs = four_at bytes 40;
  text_bytes = four_at bytes 44;
  post_bytes = eight_at bytes 48;
  skip_count = eight_at bytes 56;
}

-- those of version 2: its first ones stand in the same places
abbrev pub wide_head : List ℕ → Head
wide_head bytes = record (narrow_head bytes) {
  version = slice_index bytes 6 - 48;
  collection = eight_at bytes 32;
  occurrences = eight_at bytes 40;
  runs = four_at bytes 48;
  text_bytes = eight_at bytes 56;
  post_bytes = eight_at bytes 64;
  skip_count = eight_at bytes 72;
}

-- ---- damage

-- what is found at a place, and the range in which it is to be
pub record Check : Type 0 where
  pub at : ℕ
  pub low : ℕ
  pub high : ℕ
  pub found : ℕ

abbrev pub is_wrong : Check → Bool
is_wrong c = nat_lt c.found c.low || nat_lt c.high c.found

abbrev pub exactly : ℕ → ℕ → ℕ → Check
exactly at wanted found = record { at = at; low = wanted; high = wanted; found = found }

abbrev pub within : ℕ → ℕ → ℕ → ℕ → Check
within at low high found = record { at = at; low = low; high = high; found = found }

-- the first eight bytes, of a version from low to high
abbrev pub magic_checks : ℕ → ℕ → List ℕ → List Check
magic_checks low high bytes =
    exactly 0 77 (slice_index bytes 0) ∷ exactly 1 71 (slice_index bytes 1) ∷ exactly 2 82 (slice_index bytes 2) ∷
    exactly 3 79 (slice_index bytes 3) ∷ exactly 4 87 (slice_index bytes 4) ∷ exactly 5 118 (slice_index bytes 5)
    ∷ within 6 (48 + low) (48 + high) (slice_index bytes 6) ∷ exactly 7 10 (slice_index bytes 7) ∷ []

-- the fields that stand at one place in every version
abbrev pub first_checks : Limits → List ℕ → List Check
first_checks most bytes =
    let h = narrow_head bytes in
    within 8 0 most.documents h.documents ∷ within 12 0 most.pieces h.words ∷ within 16 0 most.pieces h.others ∷
    within 20 0 h.words h.terms ∷ within 24 least_cap greatest_cap h.cap ∷ within 28 0 1 (four_at bytes 28) ∷ []

-- the others of version 1
abbrev pub narrow_checks : List ℕ → List Check
narrow_checks bytes =
    let h = narrow_head bytes in
    within 32 0 version_1.collection h.collection ∷ within 36 0 h.collection h.occurrences ∷
    exactly 40 (run_count h.occurrences h.cap) h.runs ∷ within 56 0 h.occurrences h.skip_count ∷ []

-- and of version 2
abbrev pub wide_checks : List ℕ → List Check
wide_checks bytes =
    let h = wide_head bytes in
    within 32 0 version_2.collection h.collection ∷ within 40 0 h.collection h.occurrences ∷
    exactly 48 (run_count h.occurrences h.cap) h.runs ∷ exactly 52 0 (four_at bytes 52) ∷
    within 72 0 h.occurrences h.skip_count ∷ []

-- the size that the version asks for, and then the fields
abbrev pub rest_checks : List ℕ → List Check
rest_checks bytes =
    if slice_index bytes 6 == 49 then exactly 0 64 (length bytes) ∷
    (first_checks version_1 bytes ++ narrow_checks bytes)
    else exactly 0 80 (length bytes) ∷ (first_checks version_2 bytes ++ wide_checks bytes)

-- what is wrong first in bytes that are no head of a version from low to high
unfoldable pub first_damage : ℕ → ℕ → List ℕ → Option Check
first_damage low high bytes = if nat_lt (length bytes) 64 then Some (exactly 0 64 (length bytes))
    else find is_wrong (magic_checks low high bytes ++ rest_checks bytes)

-- the bytes have no damage as a head of a version from low to high
abbrev pub HasNoDamage : ℕ → ℕ → List ℕ → Type 0
HasNoDamage low high bytes = first_damage low high bytes ≡ None

-- what stands at each place is a byte
abbrev pub IsOfBytes : List ℕ → Type 0
IsOfBytes bytes = (i : ℕ) → slice_index bytes i < 256

unfoldable pub read_head : List ℕ → Head
read_head bytes = if slice_index bytes 6 == 49 then narrow_head bytes else wide_head bytes
