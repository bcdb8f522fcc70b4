-- Canonical prefix codes: the codewords of one length are consecutive numbers in the order of their symbols,
-- and a longer codeword comes before a shorter one.
use Rattle.std.specs.Prelude.{◌≡◌, ℕ, ◌+◌, ◌-◌, ◌/◌, ◌^◌, ◌≤◌, nat_lt, ◌==◌, false, List, [], ◌∷◌, sum_by, count_by, filter, take, get_or}
use Rattle.std.specs.List.{AllByRecursion}
use Rattle.mg_defs.specs.Bits.{Bits, digits}

-- what codewords of these lengths, of 48 at most, take of the 2 ^ 48 strings of 48 bits
abbrev pub kraft : List ℕ → ℕ
kraft lengths = sum_by (λ l. 2 ^ (48 - l)) lengths

abbrev pub AreCodeLengths : List ℕ → Type 0
AreCodeLengths lengths = AllByRecursion (λ l. (1 ≤ l) × (l ≤ 48)) lengths

-- the lengths of a code that leaves no string of bits over; one symbol alone has one bit
abbrev pub AreGood : List ℕ → Type 0
AreGood [] = Unit {0}
AreGood (l ∷ []) = l ≡ 1
AreGood (l ∷ m ∷ lengths) = AreCodeLengths (l ∷ m ∷ lengths) × (kraft (l ∷ m ∷ lengths) ≡ 2 ^ 48)

-- what the codewords of more than l bits take
abbrev pub longer : ℕ → List ℕ → ℕ
longer l lengths = kraft (filter (λ k. nat_lt l k) lengths)

-- the number that the first codeword of l bits is, for l up to 48
abbrev pub first_codeword : ℕ → List ℕ → ℕ
first_codeword l lengths = longer l lengths / 2 ^ (48 - l)

-- how many codewords have l bits
abbrev pub count_of : ℕ → List ℕ → ℕ
count_of l lengths = count_by (λ k. k == l) lengths

-- the number that the codeword of the symbol is, where there are two or more symbols and the symbol is one of them, counted from 0
abbrev pub codeword_value : List ℕ → ℕ → ℕ
codeword_value lengths symbol = let l = get_or lengths symbol 0 in first_codeword l lengths
    + count_of l (take symbol lengths)

-- the codeword of the symbol, in the same range
abbrev pub codeword : List ℕ → ℕ → Bits
codeword [] symbol = []
codeword (l ∷ []) symbol = false ∷ []
codeword (l ∷ m ∷ lengths) symbol = digits (get_or (l ∷ m ∷ lengths) symbol 0) (codeword_value (l ∷ m ∷ lengths) symbol)
