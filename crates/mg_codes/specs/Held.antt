-- Codes that stand whole on the page that is held.
use Rattle.std.specs.Prelude.{◌≡◌, ℕ, ◌-◌, ◌*◌, ◌/◌, ◌^◌, ◌≤◌}
use Rattle.mg_defs.specs.Bits.{Bits, digits}

-- of 57 bits, so many are one-bits before the first zero-bit
pub record IsOnesBeforeZero (next ones : ℕ) : Type 0 where
  pub within : ones ≤ 56
  pub first : next / 2 ^ (56 - ones) ≡ (2 ^ ones - 1) * 2

-- a code is the first of 57 bits, so many
pub record IsFirstCode (code : Bits) (next size : ℕ) : Type 0 where
  pub some : 1 ≤ size
  pub within : size ≤ 57
  pub bits : code ≡ digits size (next / 2 ^ (57 - size))
