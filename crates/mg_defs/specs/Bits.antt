-- Bits and numbers: the highest bit first.
use Rattle.std.specs.Prelude.{◌≡◌, ◌+◌, ◌-◌, ◌/◌, ◌%◌, ◌^◌, ◌==◌, ◌++◌, ℕ, zero, suc, Bool, true, false, List, [], ◌∷◌, length, take, drop, Option, Some, None, IfSome, replicate}

abbrev pub Bits : Type 0
Bits = List Bool

-- whether the lowest bit is one
abbrev pub is_odd : ℕ → Bool
is_odd n = n % 2 == 1

-- the lowest bits of a number, the highest of them first
unfoldable pub digits : ℕ → ℕ → List Bool
digits zero n = []
digits (suc count) n = is_odd (n / 2 ^ count) ∷ digits count n

-- the number that bits write, the highest first
unfoldable pub number : List Bool → ℕ
number [] = 0
number (true ∷ bits) = 2 ^ length bits + number bits
number (false ∷ bits) = number bits

-- the bits of a file
unfoldable pub bits_of : List ℕ → List Bool
bits_of [] = []
bits_of (byte ∷ bytes) = digits 8 byte ++ bits_of bytes

-- the bits from a place to the next byte
abbrev pub to_byte : ℕ → ℕ
to_byte place = (8 - place % 8) % 8

-- with zero-bits up to a byte
unfoldable pub filled : Bits → Bits
filled bits = bits ++ digits (to_byte (length bits)) 0

-- a fact on the bits from a place on, where the bytes are told
abbrev pub FromPlace : Option (List ℕ) → ℕ → (List Bool → Type 0) → Type 0
FromPlace told place fact = IfSome told (λ bytes. fact (drop place (bits_of bytes)))

-- these bits stand first
abbrev pub Begins : List Bool → List Bool → Type 0
Begins code bits = take (length code) bits ≡ code

-- these bits stand at this place of bytes that are told
abbrev pub Shows : Option (List ℕ) → ℕ → Bits → Type 0
Shows None place bits = ⊥
Shows (Some bytes) place bits = Begins bits (drop place (bits_of bytes))

-- bits in bytes, the highest first; zero-bits fill the last byte
abbrev pub bytes_upto : ℕ → Bits → List ℕ
bytes_upto zero bits = []
bytes_upto (suc n) [] = []
bytes_upto (suc n) (b ∷ bits) = number (take 8 (b ∷ bits ++ replicate 7 false)) ∷ bytes_upto n (drop 7 bits)

unfoldable pub as_bytes : Bits → List ℕ
as_bytes bits = bytes_upto (length bits) bits
