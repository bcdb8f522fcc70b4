-- Checks that were passed, and the first that was not.
use Rattle.std.proofs.Common.{arith, ◌≡◌, ◌<◌, ℕ, Bool, true, false, List, [], ◌∷◌, length, take, get_or, Some, None, ap, cond, map, find, suc, zero}
use Rattle.mg_defs.specs.Heads as defs
use Rattle.mg_layout.specs.declared.check.Check.{Check}
use Rattle.mg_layout.specs.HeadAnswers.{check_of}

-- the first of all that is wrong, where those before it are not
pub found_at : (checks : List Check) (i : ℕ) (d : Check) → i < length checks → find defs.is_wrong (map check_of (take i checks)) ≡ None → defs.is_wrong (check_of (get_or checks i d)) ≡ true →
    find defs.is_wrong (map check_of checks) ≡ Some (check_of (get_or checks i d))
found_at [] i d within before wrong = absurd (omega arith)
found_at (c ∷ checks) zero d within before wrong = ap (λ b. cond b (Some (check_of c)) (find defs.is_wrong (map check_of checks))) wrong
found_at (c ∷ checks) (suc i) d within before wrong = by_test (defs.is_wrong (check_of c)) (λ e. found_at checks i d (omega arith) e wrong) before
  where
    by_test : (b : Bool) → (find defs.is_wrong (map check_of (take i checks)) ≡ None → find defs.is_wrong (map check_of checks)
        ≡ Some (check_of (get_or checks i d))) → cond b (Some (check_of c)) (find defs.is_wrong (map check_of (take i checks))) ≡ None →
        cond b (Some (check_of c)) (find defs.is_wrong (map check_of checks)) ≡ Some (check_of (get_or checks i d))
    by_test true more e = absurd cc
    by_test false more e = more e

-- one more is passed
pub passed_more : (checks : List Check) (i : ℕ) (d : Check) → i < length checks → find defs.is_wrong (map check_of (take i checks)) ≡ None →
    defs.is_wrong (check_of (get_or checks i d)) ≡ false → find defs.is_wrong (map check_of (take (suc i) checks)) ≡ None
passed_more [] i d within before right = absurd (omega arith)
passed_more (c ∷ checks) zero d within before right = ap (λ b. cond b (Some (check_of c)) None) right
passed_more (c ∷ checks) (suc i) d within before right = by_test (defs.is_wrong (check_of c)) (λ e. passed_more checks i d (omega arith) e right) before
  where
    by_test : (b : Bool) → (find defs.is_wrong (map check_of (take i checks)) ≡ None → find defs.is_wrong (map check_of (take (suc i) checks)) ≡ None) →
        cond b (Some (check_of c)) (find defs.is_wrong (map check_of (take i checks))) ≡ None →
        cond b (Some (check_of c)) (find defs.is_wrong (map check_of (take (suc i) checks))) ≡ None
    by_test true more e = absurd cc
    by_test false more e = more e
