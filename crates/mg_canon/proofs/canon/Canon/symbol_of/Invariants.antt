use Rattle.std.proofs.Common.{◌≡◌, ℕ, ◌<◌}
use Rattle.mg_canon.specs.Tables.{place_of}
use Rattle.mg_canon.proofs.canon.Canon.symbol_of.Given as goal

-- no symbol before stands at the place
abbrev pub invariant-loop-symbol : goal.invariant-loop-symbol
invariant-loop-symbol l = (s : ℕ) → s < l.symbol → place_of l.self s ≡ l.place → ⊥
