-- How many bytes the entries of pieces take in their part, each with a field of one byte.
use Rattle.std.specs.Prelude.{ℕ, zero, suc, ◌+◌, ◌-◌, ◌%◌, ◌==◌, if◌then◌else◌, List, [], length, get_or}
use Rattle.mg_defs.specs.Front.{shared}

-- the bytes of the entry at a place: a whole one has the piece's length, the piece and its field
abbrev pub entry_size : List (List ℕ) → ℕ → ℕ
entry_size pieces place =
    if place % 4 == 0 then length (get_or pieces place []) + 2
    else length (get_or pieces place []) - shared (get_or pieces (place - 1) []) (get_or pieces place []) + 3

-- the bytes of the first so many entries
abbrev pub first_sizes : List (List ℕ) → ℕ → ℕ
first_sizes pieces zero = 0
first_sizes pieces (suc n) = first_sizes pieces n + entry_size pieces n
