-- The codes, as lists of bits.
use Rattle.mg_defs.specs.Bits.{Bits, digits}
use Rattle.std.specs.Prelude.{ℕ, zero, suc, ◌+◌, ◌-◌, ◌*◌, ◌/◌, ◌%◌, ◌^◌, max, nat_lt, nat_le, true, false, if◌then◌else◌, [], ◌∷◌, ◌++◌}

-- the greatest e below the first number with 2 ^ e at most x: for x from 1 to 2 ^ bound - 1 the whole part of its logarithm
abbrev pub log2_below : ℕ → ℕ → ℕ
log2_below zero x = 0
log2_below (suc e) x = if nat_le (2 ^ e) x then e else log2_below e x

-- for x from 1 to 2 ^ 64 - 1; it says nothing of any other number
abbrev pub log2 : ℕ → ℕ
log2 x = log2_below 64 x

-- the least number k with 2 ^ k at least b, for b up to 2 ^ 64
unfoldable pub ceil_log2 : ℕ → ℕ
ceil_log2 b = if nat_le b 1 then 0 else 1 + log2 (b - 1)

-- so many one-bits
unfoldable pub ones : ℕ → Bits
ones zero = []
ones (suc n) = true ∷ ones n

-- x from 1: x - 1 one-bits and a zero-bit
unfoldable pub unary : ℕ → Bits
unary x = ones (x - 1) ++ false ∷ []

-- x from 1 to 2 ^ 64 - 1: the number of bits of x in unary, then x without its highest bit
unfoldable pub gamma : ℕ → Bits
gamma x = unary (1 + log2 x) ++ digits (log2 x) (x - 2 ^ log2 x)

-- how many remainders of b have a code of one bit less, for b from 1 to 2 ^ 64
unfoldable pub shorter : ℕ → ℕ
shorter b = 2 ^ ceil_log2 b - b

-- r from 0 to b - 1, for b from 1 to 2 ^ 64
unfoldable pub short : ℕ → ℕ → Bits
short b r = if nat_lt r (shorter b) then digits (ceil_log2 b - 1) r else digits (ceil_log2 b) (r + shorter b)

-- x from 1, and b from 1 to 2 ^ 64: how often b goes into x - 1, and the remainder
unfoldable pub golomb : ℕ → ℕ → Bits
golomb b x = unary (1 + (x - 1) / b) ++ short b ((x - 1) % b)

-- the parameter of a list of f documents, from 1 on, among all
abbrev pub golomb_parameter : ℕ → ℕ → ℕ
golomb_parameter all f = max 1 ((69 * all) / (100 * f))
