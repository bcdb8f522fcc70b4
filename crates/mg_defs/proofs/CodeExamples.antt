-- The worked rows of the codes and lists, computed.
use Rattle.std.proofs.Common.{◌≡◌, ℕ, List, [], ◌∷◌, refl, map, ◌==◌}
use Rattle.std.specs.Prelude.{codes}
use Rattle.mg_defs.specs.Bits.{Bits, digits}
use Rattle.mg_defs.specs.Codes.{ones, gamma, golomb, unary, short, shorter, ceil_log2, golomb_parameter}
use Rattle.mg_defs.specs.PagesOf.{pages}

-- bits from their digits
abbrev bits : List ℕ → Bits
bits text = map (λ c. c == 49) text

-- of 1 to 5 and of 10
gammas : map gamma (1 ∷ 2 ∷ 3 ∷ 4 ∷ 5 ∷ 10 ∷ []) ≡ bits (codes "0") ∷ bits (codes "100") ∷ bits (codes "101") ∷ bits (codes "11000") ∷ bits (codes "11001") ∷ bits (codes "1110010") ∷ []
unfolding gamma unary ones digits
gammas = refl

one_to_ten : List ℕ
one_to_ten = 1 ∷ 2 ∷ 3 ∷ 4 ∷ 5 ∷ 6 ∷ 7 ∷ 8 ∷ 9 ∷ 10 ∷ []

golombs_of_three : map (golomb 3) one_to_ten ≡ bits (codes "00") ∷ bits (codes "010") ∷ bits (codes "011") ∷ bits (codes "100") ∷ bits (codes "1010") ∷
    bits (codes "1011") ∷ bits (codes "1100") ∷ bits (codes "11010") ∷ bits (codes "11011") ∷ bits (codes "11100") ∷ []
unfolding one_to_ten golomb unary ones short shorter ceil_log2 digits
golombs_of_three = refl

golombs_of_six : map (golomb 6) one_to_ten ≡ bits (codes "000") ∷ bits (codes "001") ∷ bits (codes "0100") ∷ bits (codes "0101") ∷ bits (codes "0110") ∷
    bits (codes "0111") ∷ bits (codes "1000") ∷ bits (codes "1001") ∷ bits (codes "10100") ∷ bits (codes "10101") ∷ []
unfolding one_to_ten golomb unary ones short shorter ceil_log2 digits
golombs_of_six = refl

-- with the parameter 1 they are the unary codes
golombs_of_one : map (golomb 1) one_to_ten ≡ map unary one_to_ten
unfolding one_to_ten golomb unary ones short shorter ceil_log2 digits
golombs_of_one = refl

-- 100,000 documents, 5,000 of them with the term; and all with it
parameters : golomb_parameter 100000 5000 ∷ golomb_parameter 7 7 ∷ [] ≡ 13 ∷ 1 ∷ []
parameters = refl

-- the bits from the last of the first page to the first of the third, one bit, and none
pages_of_ranges : pages 32767 65537 ∷ pages 32767 32768 ∷ pages 32768 32768 ∷ [] ≡ 3 ∷ 1 ∷ 0 ∷ []
pages_of_ranges = refl
