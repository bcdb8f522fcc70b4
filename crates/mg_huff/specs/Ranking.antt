-- The counts in rising order, each with its place.
use Rattle.std.specs.Prelude.{◌≡◌, ℕ, ◌+◌, ◌*◌, ◌^◌, ◌<◌, ◌≤◌, ◌==◌, cond, List, length, sum_by, map, slice_index, drop, take}
use Rattle.std.specs.List.{All}
use Rattle.std.specs.List.Sorted.{IsPermutation}
use Rattle.mg_defs.specs.Canon.{kraft}
use Rattle.mg_defs.specs.Cost.{cost_of}
use Rattle.mg_huff.specs.declared.counted.Counted.{Counted}

abbrev pub counts_of : List Counted → List ℕ
counts_of order = map (λ p. p.count) order

-- how many of them have this place
abbrev pub times_at : ℕ → List Counted → ℕ
times_at k order = sum_by (λ p. cond (p.place == k) 1 0) order

abbrev pub IsPlace : List ℕ → Counted → Type 0
IsPlace counts p = (p.place < length counts) × (slice_index counts p.place ≡ p.count)

-- each count once, with its place
pub record IsListed (counts : List ℕ) (order : List Counted) : Type 0 where
  pub same : IsPermutation counts (counts_of order)
  pub in_place : All (IsPlace counts) order
  pub once : (k : ℕ) → times_at k order ≤ 1

-- so many lengths stand in their places, and 0 in the other places
pub record Placed (counts : List ℕ) (order : List Counted) (found : List ℕ) (at : ℕ) (out : List ℕ) : Type 0 where
  pub same_cost : cost_of counts out + cost_of (drop at (counts_of order)) (drop at found)
      ≡ cost_of (counts_of order) found
  pub full : kraft out + kraft (drop at found) + at * 2 ^ 48 ≡ length counts * 2 ^ 48 + kraft found
  pub within : All (λ d. d ≤ 45) out
  pub free : (k : ℕ) → 1 ≤ times_at k (drop at order) → slice_index out k ≡ 0
  pub same_length : length out ≡ length counts

-- the lengths in the places of the counts
pub record AreInPlace (counts : List ℕ) (order : List Counted) (found out : List ℕ) : Type 0 where
  pub same_cost : cost_of counts out ≡ cost_of (counts_of order) found
  pub full : kraft out ≡ kraft found
  pub within : All (λ d. d ≤ 45) out
  pub same_length : length out ≡ length counts

-- so many counts are listed with their places
pub record IsListing (counts : List ℕ) (order : List Counted) (at : ℕ) : Type 0 where
  pub so_far : counts_of order ≡ take at counts
  pub in_place : All (IsPlace counts) order
  pub none : (k : ℕ) → at ≤ k → times_at k order ≡ 0
  pub once : (k : ℕ) → times_at k order ≤ 1
