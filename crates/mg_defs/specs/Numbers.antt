-- Numbers in the bytes of a part, the highest byte first.
use Rattle.std.specs.Prelude.{ℕ, ◌+◌, List, [], ◌∷◌, slice_index}
use Rattle.std.specs.Int.{to_be_bytes, from_be_bytes, w32, w64}

-- a number below 2 ^ 32 in four bytes
unfoldable pub four : ℕ → List ℕ
four n = to_be_bytes w32 n

-- a number below 2 ^ 64 in eight bytes
unfoldable pub eight : ℕ → List ℕ
eight n = to_be_bytes w64 n

-- the number in the four bytes from a place on
unfoldable pub four_at : List ℕ → ℕ → ℕ
four_at bytes at = from_be_bytes w32 (slice_index bytes at ∷ slice_index bytes (at + 1) ∷ slice_index bytes (at + 2) ∷
    slice_index bytes (at + 3) ∷ [])

-- the number in the eight bytes from a place on
unfoldable pub eight_at : List ℕ → ℕ → ℕ
eight_at bytes at =
    from_be_bytes w64
    (slice_index bytes at ∷ slice_index bytes (at + 1) ∷ slice_index bytes (at + 2) ∷ slice_index bytes (at + 3) ∷
    slice_index bytes (at + 4) ∷ slice_index bytes (at + 5) ∷ slice_index bytes (at + 6) ∷
    slice_index bytes (at + 7) ∷ [])
