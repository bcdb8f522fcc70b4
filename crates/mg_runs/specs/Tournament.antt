-- A tournament: nodes of a tree, each with the least key of those below it and whose key it is.
use Rattle.std.specs.Prelude.{◌≡◌, ◌≤◌, ◌<◌, ◌+◌, ◌*◌, ◌^◌, ◌⊎◌, ℕ, List, length, slice_index}

-- A node has the key and the contestant of one of the two nodes below it, and no greater key than the other.
pub record IsNode (keys winners : List ℕ) (i : ℕ) : Type 0 where
  pub left : slice_index keys i ≤ slice_index keys (2 * i)
  pub right : slice_index keys i ≤ slice_index keys (2 * i + 1)
  pub from : ((slice_index keys i ≡ slice_index keys (2 * i)) × (slice_index winners i ≡ slice_index winners (2 * i)))
      ⊎ ((slice_index keys i ≡ slice_index keys (2 * i + 1))
      × (slice_index winners i ≡ slice_index winners (2 * i + 1)))

-- of the two nodes below a node this one has no greater key than the other
pub record IsLesser (keys : List ℕ) (i child : ℕ) : Type 0 where
  pub below : (child ≡ 2 * i) ⊎ (child ≡ 2 * i + 1)
  pub left : slice_index keys child ≤ slice_index keys (2 * i)
  pub right : slice_index keys child ≤ slice_index keys (2 * i + 1)

-- a node was given the lesser of the two keys below it, and no other was changed
pub record IsPlayedAt (i : ℕ) (keys winners new_keys new_winners : List ℕ) : Type 0 where
  pub node : IsNode new_keys new_winners i
  pub same_keys : (k : ℕ) → (k ≡ i → ⊥) → slice_index new_keys k ≡ slice_index keys k
  pub same_winners : (k : ℕ) → (k ≡ i → ⊥) → slice_index new_winners k ≡ slice_index winners k
  pub keys_length : length new_keys ≡ length keys
  pub winners_length : length new_winners ≡ length winners

-- all nodes but one are such, and the leaves are the contestants
pub record IsPlayedBut (hole count : ℕ) (keys winners : List ℕ) : Type 0 where
  pub keys_length : length keys ≡ 2 * count
  pub winners_length : length winners ≡ 2 * count
  pub leaves : (k : ℕ) → k < count → slice_index winners (count + k) ≡ k
  pub nodes : (i : ℕ) → 1 ≤ i → i < count → (i ≡ hole → ⊥) → IsNode keys winners i

-- the nodes from this one on are such
pub record IsPlayedFrom (from count : ℕ) (keys winners : List ℕ) : Type 0 where
  pub keys_length : length keys ≡ 2 * count
  pub winners_length : length winners ≡ 2 * count
  pub leaves : (k : ℕ) → k < count → slice_index winners (count + k) ≡ k
  pub nodes : (i : ℕ) → 1 ≤ i → i < count → from ≤ i → IsNode keys winners i

-- every node is such
pub record IsTournament (count : ℕ) (keys winners : List ℕ) : Type 0 where
  pub some : 1 ≤ count
  pub small : count < 2 ^ 31
  pub played : IsPlayedBut 0 count keys winners
