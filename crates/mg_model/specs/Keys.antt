-- The keys of pieces: a short piece in its key, of a longer one its number.
use Rattle.std.specs.Prelude.{◌≡◌, ℕ, zero, suc, ◌-◌, ◌<◌, nat_le, if◌then◌else◌, Bool, None, List, [], ◌∷◌, ◌++◌, Vec, length, position, replicate, slice_index}
use Rattle.std.specs.List.{position_or_len}
use Rattle.std.specs.Str.{bytes_eq}
use Rattle.std.proofs.Common.{Global}
use Rattle.mg_defs.specs.Numbers.{eight, eight_at}
use Rattle.mg_model.specs.Blocks.{short_piece}

-- the longer pieces, in the order of their numbers
abbrev pub Longer : Type 0
Longer = List (Vec ℕ Global)

-- sixteen bytes: this one, and these behind it
abbrev pub filled : ℕ → List ℕ → List ℕ
filled first bytes = first ∷ bytes ++ replicate (15 - length bytes) 0

-- the key of a piece of at most fifteen bytes
abbrev pub short_key : List ℕ → List ℕ
short_key piece = filled (length piece) piece

-- the key of the longer piece with this number
abbrev pub longer_key : ℕ → List ℕ
longer_key number = filled 16 (eight number)

-- the longer piece with this number
abbrev pub longer_at : Longer → ℕ → List ℕ
longer_at [] number = []
longer_at (kept ∷ rest) zero = kept.items
longer_at (kept ∷ rest) (suc number) = longer_at rest number

-- whether a longer piece is this one
abbrev pub holds : List ℕ → Vec ℕ Global → Bool
holds piece kept = bytes_eq piece kept.items

-- the piece of a key
abbrev pub piece_in : Longer → List ℕ → List ℕ
piece_in longer key = if nat_le (slice_index key 0) 15 then short_piece key else longer_at longer (eight_at key 1)

-- the key of a piece, where a longer one has a number
abbrev pub key_in : Longer → List ℕ → List ℕ
key_in longer piece = if nat_le (length piece) 15 then short_key piece else longer_key (position_or_len (holds piece) longer)

-- a longer piece is there, and the key tells the number of one
pub record HasNumber (longer : Longer) (key piece : List ℕ) : Type 0 where
  pub held : position_or_len (holds piece) longer < length longer
  pub told : eight_at key 1 < length longer

-- the key tells the piece, and the piece the key
pub record IsKeyOf (longer : Longer) (key piece : List ℕ) : Type 0 where
  pub piece_is : piece_in longer key ≡ piece
  pub key_is : key ≡ key_in longer piece
  pub number : 15 < length piece → HasNumber longer key piece

-- a longer piece that is not there
pub record HasNoNumber (longer : Longer) (piece : List ℕ) : Type 0 where
  pub many : 15 < length piece
  pub none : position (holds piece) longer ≡ None

-- longer pieces were added, or none
pub record Extends (before now : Longer) : Type 0 where
  pub more : Longer
  pub now_is : now ≡ before ++ more
