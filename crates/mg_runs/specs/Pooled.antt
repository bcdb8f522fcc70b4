-- What contracts see of a pool.
use Rattle.std.specs.Prelude.{◌≤◌, ◌+◌, ◌*◌, ◌≡◌, ℕ, List, [], length, slice_index_or}
use Rattle.mg_defs.specs.Limits.{least_budget, greatest_budget}
use Rattle.mg_defs.specs.declared.TermPosting.{TermPosting}

-- the entries, the bytes of the slots in use, the greatest use so far, and the budget
pub record Pooled : Type 0 where
  pub entries : List TermPosting
  pub slots : List (List ℕ)
  pub peak : ℕ
  pub limit : ℕ

-- how many bytes are in use
abbrev pub used : Pooled → ℕ
used pool = 12 * length pool.entries + 64 * length pool.slots

-- what holds of every pool
pub record IsWithin (entries slots peak limit : ℕ) : Type 0 where
  pub in_peak : 12 * entries + 64 * slots ≤ peak
  pub in_limit : peak ≤ limit
  pub least : least_budget ≤ limit
  pub most : limit ≤ greatest_budget

-- all but what the slots hold is as before
pub record SamePool (old new : Pooled) : Type 0 where
  pub entries : old.entries ≡ [] → new.entries ≡ []
  pub peak : new.peak ≡ old.peak
  pub limit : new.limit ≡ old.limit

-- the bytes of a slot in use
abbrev pub slot_bytes : Pooled → ℕ → List ℕ
slot_bytes pool slot = slice_index_or pool.slots slot []
