-- Counts by symbol, and what a code costs by them.
use Rattle.std.proofs.Common.{arith, zero, suc, ◌≡◌, ◌≤◌, ◌<◌, ◌+◌, ◌*◌, ℕ, List, [], ◌∷◌, All, length, map, sum, get_or, drop, replicate, refl, sym, ap, subst, ◌∙◌, add-one}
use Rattle.std.proofs.Math.Seq.{drop-cons}
use Rattle.std.proofs.lemmas.List.Sums.{sum_by-cons}
use Rattle.mg_defs.specs.CodedText.{StreamCode}
use Rattle.mg_defs.specs.Cost.{cost_of}
use Rattle.mg_defs.specs.Vocabulary.{count_in}
use Rattle.mg_check_parts.specs.Decoding.{AreCounts}

-- ---- none

zeros-are : (pieces : List (List ℕ)) (n : ℕ) → n ≡ length pieces → replicate n 0 ≡ map (count_in []) pieces
zeros-are [] zero is = refl
zeros-are [] (suc n) is = absurd (omega arith)
zeros-are (p ∷ pieces) zero is = absurd (omega arith)
zeros-are (p ∷ pieces) (suc n) is = ap (λ (xs : List ℕ). 0 ∷ xs) (zeros-are pieces n (omega arith))

pub none-counted : (code : StreamCode) (n : ℕ) (items : List ℕ) → items ≡ replicate n 0 → n ≡ length code.pieces → AreCounts code [] items
none-counted code n items is count = is ∙ zeros-are code.pieces n count

-- ---- costs

sum-cons : (c : ℕ) (cs : List ℕ) → sum (c ∷ cs) ≡ c + sum cs
sum-cons c cs = sum_by-cons (λ (x : ℕ). x) c cs

cost-at : (c l : ℕ) (cs ds ls ms : List ℕ) → cs ≡ c ∷ ds → ls ≡ l ∷ ms → cost_of cs ls ≡ c * l + cost_of ds ms
cost-at c l cs ds ls ms x y = ap (λ (xs : List ℕ). cost_of xs ls) x ∙ ap (cost_of (c ∷ ds)) y

pub cost-step : (i : ℕ) (cs ls : List ℕ) → i < length cs → length cs ≡ length ls → cost_of (drop i cs) (drop i ls) ≡ get_or cs i 0 * get_or ls i 0 + cost_of (drop (i + 1) cs) (drop (i + 1) ls)
cost-step i cs ls within same =
    let also : i < length ls = omega (arith, within, same) in
    rw add-one (cost-at (get_or cs i 0) (get_or ls i 0) (drop i cs) (drop (suc i) cs) (drop i ls) (drop (suc i) ls) (drop-cons cs i 0 within) (drop-cons ls i 0 also))

pub cost-small : (cs ls : List ℕ) → All (λ l. l ≤ 48) ls → cost_of cs ls ≤ 48 * sum cs
cost-small [] ls short = omega arith
cost-small (c ∷ cs) [] short = omega arith
cost-small (c ∷ cs) (l ∷ ls) short = subst (λ (n : ℕ). c * l + cost_of cs ls ≤ 48 * n) (sym (sum-cons c cs))
    (more c l (cost_of cs ls) (sum cs) (short 0 0 (omega arith)) (cost-small cs ls (λ k d h. short (suc k) d (omega (arith, h)))))
  where
    more : (c l rest total : ℕ) → l ≤ 48 → rest ≤ 48 * total → c * l + rest ≤ 48 * (c + total)
    more c l rest total short small = grind arith
