-- What the last plan for a call says after a further one, and where the later ones were dropped.
use Rattle.std.proofs.Common.{◌≡◌, ◌≢◌, ◌==◌, ℕ, ◌<◌, ◌≤◌, min, Bool, true, false, cond, List, [], ◌∷◌, ◌++◌, Some, None, refl, sym, ap, ◌∙◌, arith, filter, fold, nat_lt, nat_le}
use Rattle.std.specs.declared.option.Option.{Option}
use Rattle.std.proofs.lemmas.Bool.{eqb-true, eq-eqb}
use Rattle.std.proofs.lemmas.Bool.Decides.{nat_tests}
use Rattle.std.proofs.lemmas.List.Sums.{fold-append}
use Rattle.mg_mem.specs.declared.failure_plan.PlannedFailure.{PlannedFailure}
use Rattle.mg_mem.specs.Plans.{keep_of, keep_from, lesser}

-- the last plan counts
pub keep-here : (ps : List PlannedFailure) (new : PlannedFailure) (before : Option ℕ) → fold (keep_of new.call) before (ps ++ new ∷ []) ≡ Some new.keep
keep-here ps new before = fold-append (keep_of new.call) before ps (new ∷ []) ∙ rw (eq-eqb new.call new.call refl)

keep_of-other : (n : ℕ) (before : Option ℕ) (new : PlannedFailure) → n ≢ new.call → keep_of n before new ≡ before
keep_of-other n before new apart = by_test (new.call == n) refl
  where
    by_test : (b : Bool) → (new.call == n) ≡ b → cond b (Some new.keep) before ≡ before
    by_test true e = absurd (apart (sym (eqb-true new.call n e)))
    by_test false e = refl

-- and says nothing of other calls
pub keep-other : (ps : List PlannedFailure) (new : PlannedFailure) (n : ℕ) (before : Option ℕ) → n ≢ new.call → fold (keep_of n) before (ps ++ new ∷ []) ≡ fold (keep_of n) before ps
keep-other ps new n before apart = fold-append (keep_of n) before ps (new ∷ []) ∙ keep_of-other n (fold (keep_of n) before ps) new apart

-- what stands before a call
abbrev pub below : ℕ → PlannedFailure → Bool
below call planned = nat_lt planned.call call

-- a plan that was dropped says nothing of a call before it
pub keep-before : (ps : List PlannedFailure) (call n : ℕ) (before : Option ℕ) → n < call → fold (keep_of n) before (filter (below call) ps) ≡ fold (keep_of n) before ps
keep-before [] call n before earlier = refl
keep-before (p ∷ ps) call n before earlier = by_test (below call p) refl (λ k. keep-before ps call n k earlier)
  where
    by_test : (b : Bool) → below call p ≡ b → ((k : Option ℕ) → fold (keep_of n) k (filter (below call) ps) ≡ fold (keep_of n) k ps) →
        fold (keep_of n) before (cond b (p ∷ filter (below call) ps) (filter (below call) ps)) ≡ fold (keep_of n) (keep_of n before p) ps
    by_test true e more = more (keep_of n before p)
    by_test false e more =
        let late : call ≤ p.call = grind (arith, nat_tests, e) in
        more before ∙ ap (λ k. fold (keep_of n) k ps) (sym (keep_of-other n before p (omega arith)))

-- the plans that are left say nothing of a later call
pub keep-after : (ps : List PlannedFailure) (call n : ℕ) (before : Option ℕ) → call ≤ n → fold (keep_of n) before (filter (below call) ps) ≡ before
keep-after [] call n before later = refl
keep-after (p ∷ ps) call n before later = by_test (below call p) refl (λ k. keep-after ps call n k later)
  where
    by_test : (b : Bool) → below call p ≡ b → ((k : Option ℕ) → fold (keep_of n) k (filter (below call) ps) ≡ k) →
        fold (keep_of n) before (cond b (p ∷ filter (below call) ps) (filter (below call) ps)) ≡ before
    by_test true e more =
        let early : p.call < call = grind (arith, nat_tests, e) in
        more (keep_of n before p) ∙ keep_of-other n before p (omega arith)
    by_test false e more = more before

pub keep_from-at : (from : Option ℕ) (call n : ℕ) → call ≤ n → keep_from (Some (lesser from call)) n ≡ Some 0
keep_from-at None call n later = grind (arith, nat_tests)
keep_from-at (Some from) call n later = grind (arith, nat_tests)

pub keep_from-below : (from : Option ℕ) (call n : ℕ) → n < call → keep_from (Some (lesser from call)) n ≡ keep_from from n
keep_from-below None call n earlier = grind (arith, nat_tests)
keep_from-below (Some from) call n earlier = by_test (nat_le from n) refl
  where
    by_test : (b : Bool) → nat_le from n ≡ b → keep_from (Some (min from call)) n ≡ cond {A = Option ℕ} b (Some 0) None
    by_test true e = grind (arith, nat_tests)
    by_test false e = grind (arith, nat_tests)
