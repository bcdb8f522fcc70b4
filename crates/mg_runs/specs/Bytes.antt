-- Entries as 8 bytes each.
use Rattle.std.specs.Prelude.{◌≡◌, ◌≤◌, ◌+◌, ◌*◌, ◌++◌, ℕ, List, [], ◌∷◌, length, map, slice_index}
use Rattle.std.specs.Int.{w32, to_be_bytes, from_be_bytes}
use Rattle.std.specs.List.{AllByRecursion}
use Rattle.std.specs.Simd.{first_chunks}
use Rattle.mg_defs.specs.Limits.{greatest_cap}
use Rattle.mg_defs.specs.declared.TermPosting.{TermPosting}

-- the number of four bytes from this place on
unfoldable pub number_in : ℕ → List ℕ → ℕ
number_in from bytes = from_be_bytes w32 (slice_index bytes from ∷ slice_index bytes (from + 1) ∷
    slice_index bytes (from + 2) ∷ slice_index bytes (from + 3) ∷ [])

-- the entry that these 8 bytes are, which counts one
abbrev pub entry_in : List ℕ → TermPosting
entry_in bytes = record { term = number_in 0 bytes; doc = number_in 4 bytes; count = 1 }

-- the eight bytes of an entry
unfoldable pub bytes_of : ℕ → ℕ → List ℕ
bytes_of term doc = to_be_bytes w32 term ++ to_be_bytes w32 doc

-- the first so many entries
abbrev pub entries_in : ℕ → List ℕ → List TermPosting
entries_in count bytes = map entry_in (first_chunks 8 count bytes)

-- each counts one, and has a document
abbrev pub AreEntries : List TermPosting → Type 0
AreEntries xs = AllByRecursion (λ x. (x.count ≡ 1) × (1 ≤ x.doc)) xs

-- the bytes begin with so many entries, at least one and no more than the greatest pool has room for, and there are four more for each
pub record AreTaken (count : ℕ) (bytes : List ℕ) : Type 0 where
  pub some : 1 ≤ count
  pub few : count ≤ greatest_cap
  pub room : 12 * count ≤ length bytes
  pub are : AreEntries (entries_in count bytes)
