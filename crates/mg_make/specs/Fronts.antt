-- What a collection begins with.
use Rattle.std.specs.Prelude.{◌≡◌, ◌<◌, ◌^◌, ℕ, List, ◌++◌, length}
use Rattle.mg_defs.specs.Marks.{Mark, marks}

-- a collection of fewer than 2^32 bytes begins with these marks
pub record IsFrontOf (met : List Mark) (collection : List ℕ) : Type 0 where
  pub after : List Mark
  pub whole : marks collection ≡ met ++ after
  pub few : length collection < 2 ^ 32
