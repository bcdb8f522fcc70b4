-- A document's weight is a root: the sum of the squares is below 2 ^ 64.
use Rattle.std.proofs.Common.{ℕ, zero, suc, ◌*◌, ◌/◌, ◌^◌, ◌<◌, ◌≤◌, List, [], ◌∷◌, length, arith, refl}
use Rattle.std.specs.List.{sum_by}
use Rattle.std.specs.Prelude.{nat_le}
use Rattle.std.proofs.lemmas.Bool.{cond_both}
use Rattle.std.proofs.lemmas.Nat.{mul-le}
use Rattle.std.proofs.lemmas.List.Sums.{sum_by-cons}
use Rattle.mg_defs.specs.Codes.{log2, log2_below}
use Rattle.mg_defs.specs.Fixed.{lg, IsRoot}
use Rattle.mg_defs.specs.Terms.{terms, sorted_distinct, freq_in}
use Rattle.mg_defs.specs.Weights.{weight_in_doc, wd, weight}
use Rattle.mg_defs.proofs.FixedLaws.{lg-is, digits_below, isqrt_root}
use Rattle.mg_defs.proofs.ListLaws.{terms_short}
use Rattle.mg_defs.proofs.SortedLaws.{distinct_short}

log2_small : (n x : ℕ) → log2_below (suc n) x ≤ n
log2_small zero x = cond_both (nat_le (2 ^ 0) x) 0 (log2_below 0 x) (λ e. e ≤ 0) (λ _. omega arith) (λ _. omega arith)
log2_small (suc n) x =
    cond_both (nat_le (2 ^ suc n) x) (suc n) (log2_below (suc n) x) (λ e. e ≤ suc n) (λ _. omega arith) (λ _. omega (arith, log2_small n x))

pub lg_small : (x : ℕ) → lg x < 2 ^ 14
lg_small x = omega (arith, lg-is x (log2 x) refl, digits_below 8 (x * 2 ^ 31 / 2 ^ log2 x), log2_small 63 x)

square_small : (doc t : List ℕ) → wd doc t * wd doc t ≤ 2 ^ 29
unfolding weight_in_doc
square_small doc t =
    let small : wd doc t ≤ 16640 = omega (arith, lg_small (freq_in doc t)) in
    omega (arith, mul-le (wd doc t) (wd doc t) 16640 16640 small small)

sum_small : (doc : List ℕ) (ts : List (List ℕ)) → sum_by (λ t. wd doc t * wd doc t) ts ≤ length ts * 2 ^ 29
sum_small doc [] = omega arith
sum_small doc (t ∷ ts) = omega (arith, sum_by-cons (λ u. wd doc u * wd doc u) t ts, sum_small doc ts, square_small doc t)

pub weight_root : (doc : List ℕ) → length doc ≤ 2 ^ 32 → IsRoot (sum_by (λ t. wd doc t * wd doc t) (sorted_distinct (terms doc))) (weight doc)
unfolding weight
weight_root doc short =
    isqrt_root (sum_by (λ t. wd doc t * wd doc t) (sorted_distinct (terms doc)))
    (omega (arith, sum_small doc (sorted_distinct (terms doc)), distinct_short (terms doc), terms_short doc, short))
