-- The pages of 4,096 bytes on which a range of bits lies.
use Rattle.std.specs.Prelude.{◌≡◌, ℕ, ◌+◌, ◌-◌, ◌/◌, ◌≤◌, ◌<◌, nat_lt, if◌then◌else◌}

-- the page of a bit place
abbrev pub page_at : ℕ → ℕ
page_at place = place / 32768

-- some bit of the range lies on the page
pub record HasBit (from to page : ℕ) : Type 0 where
  pub place : ℕ
  pub low : from ≤ place
  pub high : place < to
  pub on : page_at place ≡ page

-- how many pages have a bit of the range
abbrev pub pages : ℕ → ℕ → ℕ
pages from to = if nat_lt from to then page_at (to - 1) - page_at from + 1 else 0
