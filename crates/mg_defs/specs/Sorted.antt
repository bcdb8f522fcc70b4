-- Strings of bytes in the order of their bytes, each once.
use Rattle.std.specs.Prelude.{ℕ, List, [], ◌∷◌, Contains, All}
use Rattle.std.specs.List.{position_or_len}
use Rattle.std.specs.List.Sorted.{IsStrictlySortedBy}
use Rattle.std.specs.Ordering.{nat_cmp}
use Rattle.std.specs.Cmp.Lexicographic.{slice_cmp}
use Rattle.std.specs.Str.{bytes_eq}
use Rattle.std.specs.BTreeSet.{insert_key}

-- The list has the strings, each once, and they rise.
pub record IsSortedDistinct (strings sorted : List (List ℕ)) : Type 0 where
  pub rising : IsStrictlySortedBy (slice_cmp nat_cmp) sorted
  pub each : All (Contains strings) sorted
  pub all : All (Contains sorted) strings

-- the strings in order, each once, computed
abbrev pub sorted_distinct : List (List ℕ) → List (List ℕ)
sorted_distinct [] = []
sorted_distinct (s ∷ strings) = insert_key (slice_cmp nat_cmp) (sorted_distinct strings) s

-- the place of a string, counted from 0, or the length where it is not there
abbrev pub number_of : List (List ℕ) → List ℕ → ℕ
number_of sorted s = position_or_len (bytes_eq s) sorted
