-- Why and where a line is refused, and what a line reads as.
use Rattle.std.specs.Prelude.{ℕ}

-- The number is the place in the line.
pub data Refusal : Type 0 where
  syntax : ℕ → Refusal
  too_deep : ℕ → Refusal
  too_long : ℕ → Refusal
  too_many : ℕ → Refusal

pub data Reading (A : Type 0) : Type 0 where
  reads : A → Reading A
  refused : Refusal → Reading A
