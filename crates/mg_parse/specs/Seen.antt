-- What a splitter keeps of the bytes that it was fed.
use Rattle.std.specs.Prelude.{◌≡◌, ℕ, Bool, List}
use Rattle.mg_defs.specs.Split.{closed_count, has_open_end}

pub record Seen : Type 0 where
  pub closed : ℕ
  pub open_end : Bool

-- The splitter was fed these bytes, for all that it tells.
pub record StandsFor (seen : Seen) (fed : List ℕ) : Type 0 where
  pub closed : seen.closed ≡ closed_count fed
  pub end : seen.open_end ≡ has_open_end fed
