use Rattle.std.proofs.Common.{◌≡◌, ℕ, List, length}
use Rattle.mg_runs.specs.Fed.{IsFed}
use Rattle.mg_runs_tests.proofs.tests.take.Given as goal

abbrev pub invariant-loop-k : goal.invariant-loop-k
invariant-loop-k g l = (fed : List (ℕ × ℕ)) × (length fed ≡ l.k) × IsFed l.runs (g.S.Store.files l.store) fed
