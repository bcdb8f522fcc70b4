-- The lengths of all counts, from the parts.
use Rattle.std.proofs.Common.{◌≡◌, ℕ, ◌≤◌, ◌^◌, List, [], ◌∷◌, length, sum, sym, ap, ◌∙◌, arith}
use Rattle.std.proofs.lemmas.List.Elements.{recursion_from_All}
use Rattle.std.proofs.lemmas.List.Sorted.{length_permutation, sum_by-IsPermutation, All-permutation}
use Rattle.std.specs.List.{All, AllByRecursion}
use Rattle.mg_defs.specs.Canon.{kraft, AreGood}
use Rattle.mg_defs.specs.Cost.{sorted, merge_cost, huffman_cost, cost_of}
use Rattle.mg_huff.specs.Rising.{Above}
use Rattle.mg_huff.specs.Forest.{AreDepths}
use Rattle.mg_huff.specs.Ranking.{counts_of, IsListed, AreInPlace}
use Rattle.mg_huff.specs.declared.counted.Counted.{Counted}
use Rattle.mg_defs.proofs.CostLaws.{sorted-permutation, huffman_cost-many}
use Rattle.mg_huff.proofs.Places.{good}

pub listed_above : (counts : List ℕ) (order : List Counted) → IsListed counts order → All (λ c. 1 ≤ c) counts → Above 1 (counts_of order)
listed_above counts order l all = recursion_from_All (λ c. 1 ≤ c) (counts_of order) (All-permutation (λ c. 1 ≤ c) counts (counts_of order) l.same all)

pub listed_sum : (counts : List ℕ) (order : List Counted) → IsListed counts order → sum (counts_of order) ≡ sum counts
listed_sum counts order l = sum_by-IsPermutation (λ c. c) counts (counts_of order) l.same

pub listed_length : (counts : List ℕ) (order : List Counted) → IsListed counts order → length (counts_of order) ≡ length counts
listed_length counts order l = length_permutation counts (counts_of order) l.same

good_many : (out : List ℕ) → 2 ≤ length out → kraft out ≡ 2 ^ 48 → AllByRecursion (λ d. d ≤ 45) out → AreGood out
good_many [] h full all = absurd (omega arith)
good_many (a ∷ []) h full all = absurd (omega arith)
good_many (a ∷ b ∷ out) h full all = good a b out full all

module _ (counts : List ℕ) (order : List Counted) (found out : List ℕ) (l : IsListed counts order) (d : AreDepths (counts_of order) found)
    (p : AreInPlace counts order found out) (many : 2 ≤ length counts) where
  pub whole_good : AreGood out
  whole_good = good_many out (let e = p.same_length in omega arith) (p.full ∙ d.full) (recursion_from_All (λ d. d ≤ 45) out p.within)

  pub whole_cost : cost_of counts out ≡ huffman_cost counts
  whole_cost =
      let s = sorted-permutation counts (counts_of order) l.same in
      let n = listed_length counts order l in
      p.same_cost ∙ d.same_cost ∙ ap (λ m. merge_cost m (sorted (counts_of order))) n ∙ ap (λ t. merge_cost (length counts) t) s ∙ sym (huffman_cost-many counts many)
