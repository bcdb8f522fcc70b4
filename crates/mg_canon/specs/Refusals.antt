-- Which lists of lengths have no canonical code, and why.
use Rattle.std.specs.Prelude.{◌≡◌, ◌≢◌, ℕ, ◌^◌, ◌<◌, ◌≤◌, ◌==◌, if◌then◌else◌, List, length, slice_index}
use Rattle.mg_defs.specs.Canon.{kraft}
use Rattle.mg_canon.specs.declared.canon_err.CanonErr.{CanonErr}
use Rattle.mg_canon.specs.declared.canon_err.CanonErr.TheVariants.{BadLength, Kraft, Memory}

-- the most bits of a codeword among those of so many symbols
abbrev pub most_bits : ℕ → ℕ
most_bits symbols = if symbols == 1 then 1 else 48

-- a codeword among those of so many symbols may have so many bits
abbrev pub IsLength : ℕ → ℕ → Type 0
IsLength symbols l = (1 ≤ l) × (l ≤ most_bits symbols)

-- the first so many symbols have lengths that codewords may have
abbrev pub HaveLengths : ℕ → List ℕ → Type 0
HaveLengths done lengths = (s : ℕ) → s < done → IsLength (length lengths) (slice_index lengths s)

-- this symbol is the first with a length that no codeword may have, and this is the length
pub record IsFirstBad (lengths : List ℕ) (symbol l : ℕ) : Type 0 where
  pub there : symbol < length lengths
  pub length_is : slice_index lengths symbol ≡ l
  pub bad : ¬ IsLength (length lengths) l
  pub before : HaveLengths symbol lengths

-- Each of two or more symbols has a length that codewords may have, but together they take more or less than the whole: this sum.
pub record IsUnfilled (lengths : List ℕ) (sum : ℕ) : Type 0 where
  pub many : 2 ≤ length lengths
  pub all : HaveLengths (length lengths) lengths
  pub sum_is : sum ≡ kraft lengths
  pub other : sum ≢ 2 ^ 48

-- the lengths are refused for this cause
abbrev pub Refuses : List ℕ → CanonErr → Type 0
Refuses lengths (BadLength symbol l) = IsFirstBad lengths symbol l
Refuses lengths (Kraft sum) = IsUnfilled lengths sum
Refuses lengths Memory = ⊥
