-- The least weight of a list stands first where the list is sorted.
use Rattle.std.proofs.Common.{◌≡◌, ℕ, ◌+◌, ◌<◌, ◌≤◌, true, false, cond, List, [], ◌∷◌, ◌++◌, length, refl, sym, ◌∙◌, subst, arith, leb, get_or, drop}
use Rattle.std.proofs.lemmas.List.{drop_more}
use Rattle.std.proofs.lemmas.Bool.Decides.{nat_tests}
use Rattle.mg_huff.specs.Rising.{Above, Rising}
use Rattle.mg_defs.specs.Cost.{in_order, sorted}
use Rattle.mg_defs.proofs.CostLaws.{sorted-swap}

Above-in_order : (low a : ℕ) (xs : List ℕ) → low ≤ a → Above low xs → Above low (in_order a xs)
Above-in_order low a [] h all = (h, tt)
Above-in_order low a (x ∷ xs) h all =
    elim (leb a x) as (λ b. Above low (cond b (a ∷ x ∷ xs) (x ∷ in_order a xs))) [
      | true ↦ (h, all)
      | false ↦ (all.0, Above-in_order low a xs h all.1)
    ]

pub Above-sorted : (low : ℕ) (xs : List ℕ) → Above low xs → Above low (sorted xs)
Above-sorted low [] all = tt
Above-sorted low (x ∷ xs) all = Above-in_order low x (sorted xs) all.0 (Above-sorted low xs all.1)

in_order-front : (low : ℕ) (xs : List ℕ) → Above low xs → in_order low xs ≡ low ∷ xs
in_order-front low [] all = refl
in_order-front low (x ∷ xs) all = let h : low ≤ x = all.0 in grind (arith, nat_tests)

pub Above-append : (low : ℕ) (xs ys : List ℕ) → Above low xs → Above low ys → Above low (xs ++ ys)
Above-append low [] ys a b = b
Above-append low (x ∷ xs) ys a b = (a.0, Above-append low xs ys a.1 b)

pub sorted-least : (low : ℕ) (xs ys : List ℕ) → Above low xs → Above low ys → sorted (xs ++ low ∷ ys) ≡ low ∷ sorted (xs ++ ys)
sorted-least low xs ys a b =
    sorted-swap low xs ys ∙ in_order-front low (sorted (xs ++ ys)) (Above-sorted low (xs ++ ys) (Above-append low xs ys a b))

pub Above-lower : (low high : ℕ) → low ≤ high → (xs : List ℕ) → Above high xs → Above low xs
Above-lower low high h [] all = tt
Above-lower low high h (x ∷ xs) all = (let e : high ≤ x = all.0 in omega arith, Above-lower low high h xs all.1)

-- in a list that rises from i on, what is no more than the element there is no more than each that follows
pub above_rest : (low i : ℕ) (xs : List ℕ) → i < length xs → Rising (drop i xs) → low ≤ get_or xs i 0 → Above low (drop i xs)
above_rest low i xs h up le =
    let e = drop_more xs i 0 h in
    let rest = subst (λ t. Rising t) e up in
    subst (λ t. Above low t) (sym e) (le, Above-lower low (get_or xs i 0) le (drop (i + 1) xs) rest.0)

pub rest_above : (i : ℕ) (xs : List ℕ) → i < length xs → Rising (drop i xs) → Above (get_or xs i 0) (drop (i + 1) xs)
rest_above i xs h up = (subst (λ t. Rising t) (drop_more xs i 0 h) up).0

pub rest_rises : (i : ℕ) (xs : List ℕ) → i < length xs → Rising (drop i xs) → Rising (drop (i + 1) xs)
rest_rises i xs h up = (subst (λ t. Rising t) (drop_more xs i 0 h) up).1
