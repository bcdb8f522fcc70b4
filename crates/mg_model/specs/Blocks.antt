-- Pieces by entries of sixteen bytes, and the bytes of the longer ones.
use Rattle.std.specs.Prelude.{ℕ, Bool, ◌+◌, ◌^◌, ◌<◌, ◌≤◌, nat_le, if◌then◌else◌, List, length, take, drop, slice_index}
use Rattle.std.specs.List.{AllByRecursion}
use Rattle.std.specs.Str.{bytes_eq}
use Rattle.mg_defs.specs.Numbers.{four_at}

-- the piece that an entry holds: its length, and then its bytes
abbrev pub short_piece : List ℕ → List ℕ
short_piece entry = take (slice_index entry 0) (drop 1 entry)

-- the piece of which an entry tells the length, and the place where it begins
abbrev pub long_piece : List ℕ → List ℕ → List ℕ
long_piece long entry = take (slice_index entry 0) (drop (four_at entry 1) long)

-- the piece of an entry, which holds one of at most fifteen bytes
abbrev pub piece_of : List ℕ → List ℕ → List ℕ
piece_of long entry = if nat_le (slice_index entry 0) 15 then short_piece entry else long_piece long entry

-- an entry's length is a byte, and a longer piece lies within so many bytes
pub record IsPieceEntry (size : ℕ) (entry : List ℕ) : Type 0 where
  pub byte : slice_index entry 0 ≤ 255
  pub within : 15 < slice_index entry 0 → four_at entry 1 + slice_index entry 0 ≤ size

-- whether two entries have the same piece
abbrev pub same_piece : List ℕ → List ℕ → List ℕ → Bool
same_piece long one other = bytes_eq (piece_of long one) (piece_of long other)

-- each entry is one over the bytes of the longer pieces
pub record IsBlock (entries : List (List ℕ)) (long : List ℕ) : Type 0 where
  pub few : length entries ≤ 2 ^ 22
  pub entries_are : AllByRecursion (IsPieceEntry (length long)) entries
