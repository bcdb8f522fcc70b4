use Rattle.std.proofs.Common.{◌≡◌, ◌+◌, ◌++◌, ◌∷◌, [], ℕ, List, length, arith, length-append}
use Rattle.std.specs.declared.option.Option.{Option}
use Rattle.mg_dev.specs.Files.{Files}
use Rattle.mg_runs.specs.Fed.{IsFed, Inverting}
use Rattle.mg_runs_tests.proofs.tests.take.Goals as goal

one_more : (runs : Inverting) (files : Option Files) (k : ℕ) (fed : List (ℕ × ℕ)) (o : ℕ × ℕ) → length fed ≡ k → IsFed runs files (fed ++ o ∷ []) →
    (x : List (ℕ × ℕ)) × (length x ≡ k + 1) × IsFed runs files x
one_more runs files k fed o e is = (fed ++ o ∷ [], omega (arith, e, length-append fed (o ∷ [])), is)

pub add-requires-clause-fed : goal.add-requires-clause-fed
add-requires-clause-fed g c = (c.loop-k.invariant.0, omega (arith, c.loop-k.invariant.1), c.loop-k.invariant.2)

pub loop-k-preserved : goal.loop-k-preserved
loop-k-preserved g c =
    one_more _ _ c.loop-k.k c.loop-k.invariant.0 _ c.loop-k.invariant.1
    (c.in_ok-add.ensures.fed c.loop-k.invariant.0 (omega (arith, c.loop-k.invariant.1)) c.loop-k.invariant.2)
