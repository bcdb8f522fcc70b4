-- A document's sum of products is the one over the query's terms that it has, and its weight is not 0.
use Rattle.std.proofs.Common.{◌≡◌, ℕ, zero, suc, ◌+◌, ◌*◌, ◌^◌, ◌≤◌, true, cond, List, [], ◌∷◌, length, refl, sym, ◌∙◌, ap, arith, zero-add, inl, inr}
use Rattle.std.specs.Prelude.{sum_by, filter, nat_lt}
use Rattle.std.specs.List.{list_any}
use Rattle.std.proofs.lemmas.Bool.{cases_Bool, false≢true}
use Rattle.std.proofs.lemmas.Nat.{mul-le}
use Rattle.std.proofs.lemmas.List.Sums.{sum_by-cons}
use Rattle.mg_defs.specs.Terms.{terms, freq_in, same_term, sorted_distinct}
use Rattle.mg_defs.specs.Weights.{weight, weight_in_doc, wd, wt, has_term, score_over, score_of}
use Rattle.mg_defs.specs.Fixed.{IsRoot}
use Rattle.mg_defs.proofs.SortedLaws.{has-sorted}
use Rattle.mg_defs.proofs.WeightLaws.{weight_root}
use Rattle.mg_plain.specs.Counts.{AreCounts}
use Rattle.mg_plain.specs.Products.{products}
use Rattle.mg_plain.proofs.CountLaws.{some-freq}

later : (of : List ℕ → ℕ) (t : List ℕ) (ts : List (List ℕ)) (n : ℕ) (ns : List ℕ) → AreCounts of (t ∷ ts) (n ∷ ns) → AreCounts of ts ns
later of t ts n ns c = record { size = omega (arith, c.size); each = λ k lt. c.each (suc k) (omega (arith, lt)) }

pub products-are : (collection doc : List ℕ) (query : List (List ℕ)) (counts weights : List ℕ) → AreCounts (freq_in doc) query counts →
    AreCounts (wt collection) query weights → products counts weights ≡ sum_by (λ t. wd doc t * wt collection t) (filter (has_term doc) query)
products-are collection doc [] [] weights c w = refl
products-are collection doc [] (n ∷ ns) weights c w = absurd (omega (arith, c.size))
products-are collection doc (t ∷ ts) [] weights c w = absurd (omega (arith, c.size))
products-are collection doc (t ∷ ts) (n ∷ ns) [] c w = absurd (omega (arith, w.size))
products-are collection doc (t ∷ ts) (n ∷ ns) (m ∷ ms) c w =
    let is_count : n ≡ freq_in doc t = c.each 0 (omega arith) in
    let is_weight : m ≡ wt collection t = w.each 0 (omega arith) in
    let rest = products-are collection doc ts ns ms (later (freq_in doc) t ts n ns c) (later (wt collection) t ts m ms w) in
    let test : nat_lt 0 n ≡ has_term doc t = ap (nat_lt 0) is_count ∙ some-freq doc t in
    let product : weight_in_doc n * m ≡ wd doc t * wt collection t = ap (λ x. weight_in_doc x * m) is_count ∙ ap (λ x. wd doc t * x) is_weight in
    elim (cases_Bool (has_term doc t)) [
      | inl there ↦
          ap (λ b. cond b (weight_in_doc n * m) 0 + products ns ms) (test ∙ there)
          ∙ ap (λ x. x + products ns ms) product ∙ ap (λ x. wd doc t * wt collection t + x) rest
          ∙ sym (sum_by-cons (λ u. wd doc u * wt collection u) t (filter (has_term doc) ts))
          ∙ ap (λ b. sum_by (λ u. wd doc u * wt collection u) (cond b (t ∷ filter (has_term doc) ts) (filter (has_term doc) ts))) (sym there)
      | inr missing ↦
          ap (λ b. cond b (weight_in_doc n * m) 0 + products ns ms) (test ∙ missing)
          ∙ zero-add (products ns ms) ∙ rest
          ∙ ap (λ b. sum_by (λ u. wd doc u * wt collection u) (cond b (t ∷ filter (has_term doc) ts) (filter (has_term doc) ts))) (sym missing)
    ]

-- what `document_score` answers is the score
pub score-is : (collection doc : List ℕ) (query : List (List ℕ)) (counts weights : List ℕ) (s : ℕ) → AreCounts (freq_in doc) query counts →
    AreCounts (wt collection) query weights → s ≡ score_of (products counts weights) (weight doc) → s ≡ score_over collection query doc
score-is collection doc query counts weights s c w is = is ∙ ap (λ x. score_of x (weight doc)) (products-are collection doc query counts weights c w)

square_some : (doc t : List ℕ) → 65536 ≤ wd doc t * wd doc t
unfolding weight_in_doc
square_some doc t =
    let least : 256 ≤ wd doc t = omega arith in
    omega (arith, mul-le 256 256 (wd doc t) (wd doc t) least least)

sum_some : (doc t : List ℕ) (ts : List (List ℕ)) → list_any (same_term t) ts ≡ true → 1 ≤ sum_by (λ u. wd doc u * wd doc u) ts
sum_some doc t [] there = absurd (false≢true there)
sum_some doc t (u ∷ ts) there = omega (arith, sum_by-cons (λ v. wd doc v * wd doc v) u ts, square_some doc u)

-- a document with a term has a weight
pub weight-some : (doc t : List ℕ) → length doc ≤ 2 ^ 28 → has_term doc t ≡ true → 1 ≤ weight doc
weight-some doc t short there =
    let root = weight_root doc (omega (arith, short)) in
    let some = sum_some doc t (sorted_distinct (terms doc)) (has-sorted (terms doc) t ∙ there) in
    by (weight doc) _ root some
  where
    by : (r s : ℕ) → IsRoot s r → 1 ≤ s → 1 ≤ r
    by zero s root some = absurd (omega (arith, root, some))
    by (suc r) s root some = omega arith
