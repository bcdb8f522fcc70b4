-- Numbers in bytes, both ways.
use Rattle.std.proofs.Common.{arith, ◌⊎◌, inl, inr, ◌++◌, add-zero, suc, zero, ◌≡◌, ◌+◌, ◌^◌, ◌≤◌, ◌<◌, ℕ, List, [], ◌∷◌, length, take, drop, refl, ◌∙◌, ap, slice_index, length-take, length-drop}
use Rattle.std.proofs.lemmas.Grind.{common_steps}
use Rattle.std.proofs.lemmas.Bool.{cases_lt}
use Rattle.std.proofs.lemmas.Nat.{be_bytes_4, be_bytes_8, from_be_bytes-to_be_bytes_4, from_be_bytes-to_be_bytes_8}
use Rattle.mg_defs.specs.Numbers.{four, eight, four_at, eight_at}

pub slice_index-drop : (at i : ℕ) (xs : List ℕ) → slice_index (drop at xs) i ≡ slice_index xs (at + i)
slice_index-drop at i xs = grind (arith, common_steps)

pub slice_index-take : (n i : ℕ) (xs : List ℕ) → i < n → slice_index (take n xs) i ≡ slice_index xs i
slice_index-take zero i xs h = absurd (omega arith)
slice_index-take (suc n) i [] h = refl
slice_index-take (suc n) zero (x ∷ xs) h = refl
slice_index-take (suc n) (suc i) (x ∷ xs) h = slice_index-take n i xs (omega arith)

piece_index : (n at i : ℕ) (bytes : List ℕ) → i < n → slice_index (take n (drop at bytes)) i ≡ slice_index bytes (at + i)
piece_index n at i bytes within = slice_index-take n i (drop at bytes) within ∙ slice_index-drop at i bytes

pub piece_small : (n at : ℕ) (bytes : List ℕ) → ((i : ℕ) → slice_index bytes i < 256) → (i : ℕ) → slice_index (take n (drop at bytes)) i < 256
piece_small n at bytes small i = by_order (cases_lt i n)
  where
    by_order : (i < n) ⊎ (n ≤ i) → slice_index (take n (drop at bytes)) i < 256
    by_order (inl within) = omega (arith, piece_index n at i bytes within, small (at + i))
    by_order (inr past) = let none : slice_index (take n (drop at bytes)) i ≡ 0 = past_end (take n (drop at bytes)) i (omega (arith, length-take n (drop at bytes))) in omega (arith, none)
      where
        past_end : (xs : List ℕ) (i : ℕ) → length xs ≤ i → slice_index xs i ≡ 0
        past_end xs i past = grind (arith, common_steps)

-- the bytes of a number that was read are those that were read
pub four_read : (bytes : List ℕ) (at : ℕ) → ((i : ℕ) → slice_index bytes i < 256) → at + 4 ≤ length bytes → four (four_at bytes at) ≡ take 4 (drop at bytes)
unfolding four four_at
four_read bytes at small long =
    be_bytes_4 (take 4 (drop at bytes)) _ (omega (arith, length-take 4 (drop at bytes), length-drop at bytes)) (piece_small 4 at bytes small)
    (omega (
      arith,
      ap (slice_index bytes) (add-zero at),
      piece_index 4 at 0 bytes (omega arith),
      piece_index 4 at 1 bytes (omega arith),
      piece_index 4 at 2 bytes (omega arith),
      piece_index 4 at 3 bytes (omega arith),
    ))

pub eight_read : (bytes : List ℕ) (at : ℕ) → ((i : ℕ) → slice_index bytes i < 256) → at + 8 ≤ length bytes → eight (eight_at bytes at) ≡ take 8 (drop at bytes)
unfolding eight eight_at
eight_read bytes at small long =
    be_bytes_8 (take 8 (drop at bytes)) _ (omega (arith, length-take 8 (drop at bytes), length-drop at bytes)) (piece_small 8 at bytes small)
    (omega (
      arith,
      ap (slice_index bytes) (add-zero at),
      piece_index 8 at 0 bytes (omega arith),
      piece_index 8 at 1 bytes (omega arith),
      piece_index 8 at 2 bytes (omega arith),
      piece_index 8 at 3 bytes (omega arith),
      piece_index 8 at 4 bytes (omega arith),
      piece_index 8 at 5 bytes (omega arith),
      piece_index 8 at 6 bytes (omega arith),
      piece_index 8 at 7 bytes (omega arith),
    ))

-- what was written is read
pub four_back : (n : ℕ) → n < 2 ^ 32 → (rest : List ℕ) → four_at (four n ++ rest) 0 ≡ n
unfolding four four_at
four_back n small rest = from_be_bytes-to_be_bytes_4 n small

pub eight_back : (n : ℕ) → n < 2 ^ 64 → (rest : List ℕ) → eight_at (eight n ++ rest) 0 ≡ n
unfolding eight eight_at
eight_back n small rest = from_be_bytes-to_be_bytes_8 n small

pub four_small : (bytes : List ℕ) (at : ℕ) → ((i : ℕ) → slice_index bytes i < 256) → four_at bytes at < 2 ^ 32
unfolding four_at
four_small bytes at small = omega (arith, small at, small (at + 1), small (at + 2), small (at + 3))

pub eight_small : (bytes : List ℕ) (at : ℕ) → ((i : ℕ) → slice_index bytes i < 256) → eight_at bytes at < 2 ^ 64
unfolding eight_at
eight_small bytes at small = omega (arith, small at, small (at + 1), small (at + 2), small (at + 3), small (at + 4), small (at + 5), small (at + 6), small (at + 7))
