-- Trees that are joined two at a time, and the depths of their leaves.
use Rattle.std.specs.Prelude.{◌≡◌, ℕ, zero, suc, ◌+◌, ◌*◌, ◌^◌, ◌≤◌, Bool, cond, List, [], ◌∷◌, ◌++◌, length, sum, reverse, drop}
use Rattle.std.specs.List.{AllZip, AllByRecursion}
use Rattle.mg_defs.specs.Canon.{kraft}
use Rattle.mg_defs.specs.Cost.{sorted, merge_cost, cost_of}
use Rattle.mg_huff.specs.Rising.{Above, Below, Rising}
use Rattle.mg_huff.specs.declared.join.Join.{Join}

-- the front of the leaves, or of the inner nodes, with a value on one of them
abbrev pub on_leaves : {X : Type 0} → Bool → X → List X → List X
on_leaves is_leaf x leaves = cond is_leaf (x ∷ leaves) leaves

abbrev pub on_inner : {X : Type 0} → Bool → X → List X → List X
on_inner is_leaf x inner = cond is_leaf inner (x ∷ inner)

-- the joins, the latest first, lead from the counts to these roots: leaves and inner nodes by their weights.
-- last is the greatest weight that was joined, and cost the sum of the weights that came of it
abbrev pub Reached : List ℕ → List Join → List ℕ → List ℕ → ℕ → ℕ → Type 0
Reached counts [] leaves inner last cost = (leaves ≡ counts) × (inner ≡ []) × (last ≡ 1) × (cost ≡ 0)
Reached counts (join ∷ joins) leaves inner last cost =
    (a : ℕ) × (before : ℕ) × (older : ℕ) × (rest : List ℕ)
    × (inner ≡ rest ++ (a + last) ∷ [])
    × (cost ≡ older + (a + last))
    × (1 ≤ before)
    × (before ≤ a)
    × (a ≤ last)
    × Reached counts joins (on_leaves join.first a (on_leaves join.second last leaves))
    (on_inner join.first a (on_inner join.second last rest)) before older

abbrev pub fib_from : ℕ → ℕ → ℕ → ℕ
fib_from zero a b = a
fib_from (suc n) a b = fib_from n b (a + b)

-- Fibonacci's numbers, from 0 and 1
unfoldable pub fib : ℕ → ℕ
fib n = fib_from n 0 1

-- a root that stands at this depth below the whole tree, whose weight is whole
abbrev pub IsWithin : ℕ → ℕ → ℕ → ℕ → Type 0
IsWithin whole last weight depth = fib (suc depth) * weight + fib depth * last ≤ whole

-- what the depths of these roots add up to
pub record Spread (whole total : ℕ) (leaves inner leaf_depths inner_depths : List ℕ) (last cost : ℕ) : Type 0 where
  pub same_cost : cost_of leaves leaf_depths + cost_of inner inner_depths + cost ≡ total
  pub full : kraft leaf_depths + kraft inner_depths ≡ 2 ^ 48
  pub leaves_within : AllZip (IsWithin whole last) leaves leaf_depths
  pub inner_within : AllZip (IsWithin whole last) inner inner_depths

-- the roots while trees are joined: each was there before as light as last, and none made is heavier than twice last
pub record Grove (whole total : ℕ) (leaves inner : List ℕ) (last cost : ℕ) : Type 0 where
  pub starts : 1 ≤ last
  pub leaves_rise : Rising leaves
  pub inner_rise : Rising inner
  pub leaves_above : Above last leaves
  pub inner_above : Above last inner
  pub inner_below : Below (last + last) inner
  pub same_cost : cost + merge_cost (length leaves + length inner) (sorted (leaves ++ inner)) ≡ total
  pub same_weight : sum leaves + sum inner ≡ whole

-- the joins lead from these counts to these roots, by the two least each time
abbrev pub Grown : ℕ → List ℕ → List Join → List ℕ → List ℕ → Type 0
Grown total counts joins leaves inner =
    (last : ℕ) × (cost : ℕ) × Grove (sum counts) total leaves inner last cost
    × Reached counts joins leaves inner last cost

-- the joins, in the order in which they were made, join these counts to one tree, at Huffman's cost
abbrev pub IsWhole : List ℕ → List Join → Type 0
IsWhole counts joins = (last : ℕ) × Reached counts (reverse joins) [] (sum counts ∷ []) last
    (merge_cost (length counts) (sorted counts))

-- what a value at the end of the leaves' depths, or of the inner nodes', leaves there
abbrev pub push_leaf : {X : Type 0} → Bool → X → List X → List X
push_leaf is_leaf x leaves = cond is_leaf (leaves ++ x ∷ []) leaves

abbrev pub push_inner : {X : Type 0} → Bool → X → List X → List X
push_inner is_leaf x inner = cond is_leaf inner (inner ++ x ∷ [])

-- the latest joins are taken back, so many of them; the depths stand in the order in which they were found
pub record Undone (counts : List ℕ) (joins : List Join) (at : ℕ) (leaf_depths inner_depths : List ℕ) : Type 0 where
  pub leaves : List ℕ
  pub inner : List ℕ
  pub last : ℕ
  pub cost : ℕ
  pub reached : Reached counts (drop at (reverse joins)) leaves inner last cost
  pub spread : Spread (sum counts) (merge_cost (length counts) (sorted counts)) leaves inner (reverse leaf_depths)
      (reverse (drop at inner_depths)) last cost

-- the depths of the leaves of Huffman's tree
pub record AreDepths (counts depths : List ℕ) : Type 0 where
  pub same_cost : cost_of counts depths ≡ merge_cost (length counts) (sorted counts)
  pub full : kraft depths ≡ 2 ^ 48
  pub within : AllByRecursion (λ d. d ≤ 45) depths
  pub same_length : length depths ≡ length counts
