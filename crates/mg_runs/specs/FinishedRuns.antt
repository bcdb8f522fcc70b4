-- How many runs of a pool are finished.
use Rattle.std.specs.Prelude.{ℕ, ◌-◌, ◌/◌}

-- how many runs are written before the pool takes the last of so many occurrences
abbrev pub finished : ℕ → ℕ → ℕ
finished cap count = (count - 1) / cap
