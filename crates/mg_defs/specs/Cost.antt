-- The cost of a prefix code by Huffman's method: the two least weights are merged, until one is left.
use Rattle.std.specs.Prelude.{ℕ, zero, suc, ◌+◌, ◌*◌, nat_le, if◌then◌else◌, List, [], ◌∷◌, length}

-- a sorted list with a weight in its place
abbrev pub in_order : ℕ → List ℕ → List ℕ
in_order w [] = w ∷ []
in_order w (v ∷ weights) = if nat_le w v then w ∷ v ∷ weights else v ∷ in_order w weights

abbrev pub sorted : List ℕ → List ℕ
sorted [] = []
sorted (w ∷ weights) = in_order w (sorted weights)

-- the sum of the two least, and the same of the list with that sum in their place, n times at most
abbrev pub merge_cost : ℕ → List ℕ → ℕ
merge_cost zero weights = 0
merge_cost (suc n) [] = 0
merge_cost (suc n) (a ∷ []) = 0
merge_cost (suc n) (a ∷ b ∷ weights) = a + b + merge_cost n (in_order (a + b) weights)

-- one symbol alone costs a bit each time
abbrev pub huffman_cost : List ℕ → ℕ
huffman_cost [] = 0
huffman_cost (count ∷ []) = count
huffman_cost (a ∷ b ∷ counts) = merge_cost (length counts + 2) (sorted (a ∷ b ∷ counts))

-- the bits that so many codewords of these lengths take: the sum of each count times its length
abbrev pub cost_of : List ℕ → List ℕ → ℕ
cost_of [] lengths = 0
cost_of (count ∷ counts) [] = 0
cost_of (count ∷ counts) (l ∷ lengths) = count * l + cost_of counts lengths
