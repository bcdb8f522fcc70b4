-- How a short code is read bit by bit. It has at most `size` bits, and `few` remainders have a code of one bit less; after `done`
-- bits these write the number `high`.
use Rattle.std.specs.Prelude.{◌≡◌, ℕ, ◌+◌, ◌-◌, ◌*◌, ◌^◌, ◌<◌, ◌≤◌, ◌⊎◌, nat_lt, nat_eq, if◌then◌else◌}

-- the code of the remainder v was read whole
abbrev pub IsWholeAt : ℕ → ℕ → ℕ → ℕ → ℕ → Type 0
IsWholeAt size few done high v = ((done ≡ size) × (v ≡ high - few)) ⊎ ((done + 1 ≡ size) × (high < few) × (v ≡ high))

-- no code was read whole
pub record IsOpenAt (size few done high : ℕ) : Type 0 where
  pub more : done < size
  pub longer : done + 1 ≡ size → few ≤ high

-- the least remainder whose code begins with all bits but the last of the longer codes
abbrev pub least_from : ℕ → ℕ → ℕ
least_from few t = if nat_lt t few then t else 2 * t - few

-- the least remainder whose code begins with the bits that were read
abbrev pub least_of : ℕ → ℕ → ℕ → ℕ → ℕ
least_of size few done high = if nat_eq done size then high - few else least_from few (high * 2 ^ (size - 1 - done))

-- the bound of the remainders after the quotient q: all of them, and after the greatest quotient those up to the last
pub record IsBound (b top last q bound : ℕ) : Type 0 where
  pub most : q ≤ top
  pub before : q < top → bound ≡ b
  pub at_top : q ≡ top → bound ≡ last + 1
