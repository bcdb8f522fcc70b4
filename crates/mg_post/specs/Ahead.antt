-- Bits that were looked at and are not read yet, as a number.
use Rattle.std.specs.Prelude.{◌≡◌, ◌+◌, ◌<◌, ◌≤◌, ◌^◌, ℕ, ◌++◌, length, Option}
use Rattle.mg_dev.specs.Files.{Files}
use Rattle.mg_bits.specs.Feed.{Feeding, HoldsBits}
use Rattle.mg_defs.specs.Bits.{Begins, Bits, FromPlace, digits}
use Rattle.mg_defs.specs.Codes.{ceil_log2, shorter}

-- a code stands first of so many bits, and these are left behind it
pub record Takes (code : Bits) (bits count rest left : ℕ) : Type 0 where
  pub whole : digits count bits ≡ code ++ digits left rest
  pub fewer : count ≡ length code + left
  pub below : rest < 2 ^ left

-- the lengths of the short codes with a parameter
pub record IsGapCode (b size few : ℕ) : Type 0 where
  pub some : 1 ≤ b
  pub small : b < 2 ^ 48
  pub size_is : size ≡ ceil_log2 b
  pub few_is : few ≡ shorter b

-- Bits that a reader looked at and did not read yet: they stand at its place, and the page that is held has them.
pub record IsAhead (feed : Feeding) (fits : Option Files → Type 0) (place bits count : ℕ) : Type 0 where
  pub below : bits < 2 ^ count
  pub few : count ≤ 57
  pub held : 1 ≤ count → HoldsBits feed place count
  pub told : (files : Option Files) → fits files → FromPlace (feed.source files) place (Begins (digits count bits))
  pub small : 1 ≤ count → place + count ≤ 2 ^ 63 + 57
