-- Huffman's cost depends only on which counts there are, not on their order.
use Rattle.std.proofs.Common.{◌≡◌, ℕ, zero, suc, ◌+◌, ◌<◌, ◌≤◌, List, [], ◌∷◌, ◌++◌, length, refl, sym, ap, ◌∙◌, arith, get_or, set}
use Rattle.std.proofs.lemmas.Bool.Decides.{nat_tests}
use Rattle.std.proofs.lemmas.Grind.{common_steps}
use Rattle.std.proofs.lemmas.List.{get_or_default}
use Rattle.std.proofs.Math.ListN.{length-set}
use Rattle.std.specs.List.{swap}
use Rattle.std.specs.List.Sorted.{IsPermutation}
use Rattle.std.proofs.lemmas.List.Sorted.{IsPermutation-keeps, length_permutation}
use Rattle.mg_defs.specs.Cost.{in_order, sorted, merge_cost, huffman_cost}

pub in_order-swap : (a b : ℕ) (s : List ℕ) → in_order a (in_order b s) ≡ in_order b (in_order a s)
in_order-swap a b [] = grind (arith, nat_tests)
in_order-swap a b (v ∷ s) = grind (arith, nat_tests, in_order-swap a b s)

pub sorted-swap : (a : ℕ) (xs ys : List ℕ) → sorted (xs ++ a ∷ ys) ≡ in_order a (sorted (xs ++ ys))
sorted-swap a [] ys = refl
sorted-swap a (x ∷ xs) ys = rw (sorted-swap a xs ys) (in_order-swap x a (sorted (xs ++ ys)))

length-in_order : (a : ℕ) (s : List ℕ) → length (in_order a s) ≡ suc (length s)
length-in_order a [] = refl
length-in_order a (v ∷ s) = grind (arith, nat_tests, length-in_order a s)

in_order-same : (a : ℕ) (s t : List ℕ) → in_order a s ≡ in_order a t → s ≡ t
in_order-same a [] [] e = refl
in_order-same a [] (v ∷ t) e = absurd (omega (arith, ap length e, length-in_order a (v ∷ t)))
in_order-same a (u ∷ s) [] e = absurd (omega (arith, ap length e, length-in_order a (u ∷ s)))
in_order-same a (u ∷ s) (v ∷ t) e = grind (arith, nat_tests, in_order-same a s t)

sorted-set : (xs : List ℕ) (i v : ℕ) → i < length xs → in_order (get_or xs i 0) (sorted (set xs i v)) ≡ in_order v (sorted xs)
sorted-set [] i v h = absurd (omega arith)
sorted-set (x ∷ xs) zero v h = in_order-swap x v (sorted xs)
sorted-set (x ∷ xs) (suc i) v h =
    let g = get_or xs i 0 in
    in_order-swap g x (sorted (set xs i v)) ∙ ap (λ t. in_order x t) (sorted-set xs i v (omega arith)) ∙ in_order-swap x v (sorted xs)

sorted-swap_any : (l : List ℕ) (i j : ℕ) → i < length l → j < length l → sorted (set (set l i (get_or l j 0)) j (get_or l i 0)) ≡ sorted l
sorted-swap_any l i j h k =
    let li : ℕ = get_or l i 0 in
    let lj : ℕ = get_or l j 0 in
    let m : List ℕ = set l i lj in
    let in_m : j < length m = simp length-set k in
    let same : get_or m j 0 ≡ lj = grind (arith, common_steps) in
    let one = sorted-set m j li in_m in
    let two = sorted-set l i lj h in
    in_order-same lj (sorted (set m j li)) (sorted l) (ap (λ v. in_order v (sorted (set m j li))) (sym same) ∙ one ∙ two)

sorted-swapped : (l : List ℕ) (i j : ℕ) → i < length l → j < length l → sorted (swap l i j) ≡ sorted l
sorted-swapped [] i j h k = absurd (omega arith)
sorted-swapped (d ∷ ys) i j h k =
    let p = get_or_default (d ∷ ys) i d 0 h in
    let q = get_or_default (d ∷ ys) j d 0 k in
    ap (λ v. sorted (set (set (d ∷ ys) i v) j (get_or (d ∷ ys) i d))) q ∙ ap (λ v. sorted (set (set (d ∷ ys) i (get_or (d ∷ ys) j 0)) j v)) p ∙ sorted-swap_any (d ∷ ys) i j h k

pub sorted-permutation : (xs ys : List ℕ) → IsPermutation xs ys → sorted ys ≡ sorted xs
sorted-permutation xs ys p = IsPermutation-keeps xs (λ t. sorted t ≡ sorted xs) refl (λ l i j h k e. sorted-swapped l i j h k ∙ e) ys p

pub huffman_cost-many : (counts : List ℕ) → 2 ≤ length counts → huffman_cost counts ≡ merge_cost (length counts) (sorted counts)
huffman_cost-many [] h = absurd (omega arith)
huffman_cost-many (a ∷ []) h = absurd (omega arith)
huffman_cost-many (a ∷ b ∷ counts) h = let e : length counts + 2 ≡ length (a ∷ b ∷ counts) = omega arith in ap (λ n. merge_cost n (sorted (a ∷ b ∷ counts))) e

pub huffman_cost-permutation : (xs ys : List ℕ) → IsPermutation xs ys → huffman_cost ys ≡ huffman_cost xs
huffman_cost-permutation [] [] p = refl
huffman_cost-permutation [] (y ∷ ys) p = absurd (omega (arith, length_permutation [] (y ∷ ys) p))
huffman_cost-permutation (x ∷ []) [] p = absurd (omega (arith, length_permutation (x ∷ []) [] p))
huffman_cost-permutation (x ∷ []) (y ∷ []) p = let e = sorted-permutation (x ∷ []) (y ∷ []) p in cc
huffman_cost-permutation (x ∷ []) (y ∷ z ∷ ys) p = absurd (omega (arith, length_permutation (x ∷ []) (y ∷ z ∷ ys) p))
huffman_cost-permutation (x ∷ w ∷ xs) ys p =
    let n = length_permutation (x ∷ w ∷ xs) ys p in
    let many : 2 ≤ length ys = omega arith in
    let same = sorted-permutation (x ∷ w ∷ xs) ys p in
    huffman_cost-many ys many ∙ ap (λ m. merge_cost m (sorted ys)) n ∙ ap (λ t. merge_cost (length (x ∷ w ∷ xs)) t) same ∙ sym (huffman_cost-many (x ∷ w ∷ xs) (omega arith))
