-- Failures that rose later rose.
use Rattle.std.proofs.Common.{arith, ◌≤◌, ℕ}
use Rattle.mg_dev.specs.Causes.{Rose}

pub rose_behind : (a b c : ℕ) → a ≤ b → Rose b c → Rose a c
rose_behind a b c up rose = omega (arith, up, rose)
