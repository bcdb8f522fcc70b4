-- Code lengths, costs and canonical codewords of a few counts, computed.
use Rattle.std.proofs.Common.{◌≡◌, ℕ, List, [], ◌∷◌, refl, map, ◌==◌}
use Rattle.std.specs.Prelude.{codes}
use Rattle.mg_defs.specs.Bits.{Bits, digits}
use Rattle.mg_defs.specs.Canon.{codeword, kraft, first_codeword}
use Rattle.mg_defs.specs.Cost.{huffman_cost, cost_of}

-- bits from their digits
abbrev bits : List ℕ → Bits
bits text = map (λ c. c == 49) text

codewords : map (codeword (3 ∷ 2 ∷ 2 ∷ 3 ∷ 2 ∷ [])) (0 ∷ 1 ∷ 2 ∷ 3 ∷ 4 ∷ []) ≡ bits (codes "000") ∷ bits (codes "01") ∷ bits (codes "10") ∷ bits (codes "001") ∷ bits (codes "11") ∷ []
unfolding digits
codewords = refl

one_codeword : codeword (1 ∷ []) 0 ≡ bits (codes "0")
one_codeword = refl

firsts : map (λ l. first_codeword l (3 ∷ 2 ∷ 2 ∷ 3 ∷ 2 ∷ [])) (1 ∷ 2 ∷ 3 ∷ 4 ∷ []) ≡ 2 ∷ 1 ∷ 0 ∷ 0 ∷ []
firsts = refl

full : kraft (3 ∷ 2 ∷ 2 ∷ 3 ∷ 2 ∷ []) ≡ 281474976710656
full = refl

half_full : kraft (2 ∷ 2 ∷ []) ≡ 140737488355328
half_full = refl

cost : huffman_cost (1 ∷ 2 ∷ 2 ∷ 1 ∷ 2 ∷ []) ≡ 18
cost = refl

same_cost : cost_of (1 ∷ 2 ∷ 2 ∷ 1 ∷ 2 ∷ []) (3 ∷ 2 ∷ 2 ∷ 3 ∷ 2 ∷ []) ≡ 18
same_cost = refl

lone_cost : huffman_cost (7 ∷ []) ≡ 7
lone_cost = refl
