-- The row of a document whose sum is known.
use Rattle.std.proofs.Common.{arith, ◌≡◌, ◌+◌, ◌-◌, ◌*◌, ◌^◌, ◌≤◌, ◌<◌, inl, inr, ℕ, zero, suc, true, List, [], ◌∷◌, ◌++◌}
use Rattle.std.proofs.Common.{length, map, take, drop, get_or, refl, sym, ap, subst, ◌∙◌, nat_eq, slice_index_or, Some, None, if◌then◌else◌, unwrap_or, sum_by}
use Rattle.std.specs.Prelude.{flat_map, nat_le}
use Rattle.std.specs.List.{AllByRecursion, list_any}
use Rattle.std.specs.List.Sorted.{IsPermutation}
use Rattle.std.specs.Map.{lookup}
use Rattle.std.specs.Str.{bytes_eq}
use Rattle.std.proofs.lemmas.Bool.{cases_Bool, cases_lt, cond_both, eqb-true, eq-eqb, false≢true, or_cases}
use Rattle.std.proofs.lemmas.Nat.{mul-le}
use Rattle.std.proofs.lemmas.List.{get_or-map, length-map, take_more, take-append-le, take_all, map-append}
use Rattle.std.proofs.lemmas.List.Elements.{All-cons, All-tail}
use Rattle.std.proofs.lemmas.List.Sorted.{All-permutation}
use Rattle.std.proofs.lemmas.List.Sums.{sum_by-cons}
use Rattle.std.proofs.Math.Nat.{two-pow-succ}
use Rattle.std.proofs.Math.Seq.{drop-append-add}
use Rattle.mg_defs.specs.Numbers.{four}
use Rattle.mg_defs.specs.Fixed.{isqrt, root_from}
use Rattle.mg_defs.specs.Split.{documents}
use Rattle.mg_defs.specs.Terms.{document, terms, sorted_distinct}
use Rattle.mg_defs.specs.Weights.{has_term, score_of, weight, wd, weight_in_doc}
use Rattle.mg_defs.proofs.ListLaws.{documents_short}
use Rattle.mg_defs.proofs.SortedLaws.{has-sorted}
use Rattle.mg_defs.proofs.WeightLaws.{weight_root}
use Rattle.mg_defs.specs.Stands.{weights_part}
use Rattle.mg_defs.proofs.TermLaws.{document_is}
use Rattle.mg_rank.specs.declared.best.Kept.{Kept}
use Rattle.mg_rank.specs.Best.{Offered, kept_cmp}
use Rattle.mg_rank.specs.Ranked.{so_far, part_sum}
use Rattle.mg_rank.specs.Rows.{AreNumbered}
use Rattle.mg_rank.specs.Sums.{AreApart, AreWithin, sum_of}
use Rattle.mg_rank.proofs.Adding.{look_here, look_past}
use Rattle.mg_rank.proofs.HitLaws.{row_of}

-- ---- the entry of a place

pub entry_within : (all : ℕ) (es : List (ℕ × ℕ)) (k : ℕ) (d : ℕ × ℕ) → AreWithin all es → k < length es → (1 ≤ (slice_index_or es k d).0) × ((slice_index_or es k d).0 ≤ all)
entry_within all [] k d within lt = absurd (omega (arith, lt))
entry_within all (e ∷ es) zero d within lt = within.0
entry_within all (e ∷ es) (suc k) d within lt = entry_within all es k d within.1 (omega (arith, lt))

pub entry_found : (es : List (ℕ × ℕ)) (k : ℕ) (d : ℕ × ℕ) → AreApart es → k < length es → lookup (nat_eq (slice_index_or es k d).0) es ≡ Some (slice_index_or es k d).1
entry_found [] k d apart lt = absurd (omega (arith, lt))
entry_found (e ∷ es) zero d apart lt = look_here e.0 e es (eq-eqb e.0 e.0 refl)
entry_found (e ∷ es) (suc k) d apart lt =
    let key = (slice_index_or es k d).0 in
    let there = entry_found es k d apart.1 (omega (arith, lt)) in
    elim (cases_Bool (nat_eq key e.0)) [
      | inl is ↦ absurd (let none : lookup (nat_eq key) es ≡ None = subst (λ x. lookup (nat_eq x) es ≡ None) (sym (eqb-true key e.0 is)) apart.0 in
          let bad : Some (slice_index_or es k d).1 ≡ None = sym there ∙ none in cc)
      | inr isnt ↦ look_past key e es isnt ∙ there
    ]

pub entry_sum : (es : List (ℕ × ℕ)) (k : ℕ) (d : ℕ × ℕ) → AreApart es → k < length es → (slice_index_or es k d).1 ≡ sum_of (slice_index_or es k d).0 es
entry_sum es k d apart lt = sym (ap (λ o. unwrap_or o 0) (entry_found es k d apart lt))

-- ---- the weight of a document stands in four bytes

four_long : (n : ℕ) → length (four n) ≡ 4
unfolding four
four_long n = refl

four_part : (ws : List ℕ) (k : ℕ) → k < length ws → take 4 (drop (4 * k) (flat_map four ws)) ≡ four (get_or ws k 0)
four_part [] k lt = absurd (omega (arith, lt))
four_part (w ∷ ws) zero lt = take-append-le 4 (four w) (flat_map four ws) (omega (arith, four_long w)) ∙ take_all 4 (four w) (omega (arith, four_long w))
four_part (w ∷ ws) (suc k) lt =
    let e : 4 * suc k ≡ length (four w) + 4 * k = omega (arith, four_long w) in
    ap (λ n. take 4 (drop n (four w ++ flat_map four ws))) e ∙ ap (take 4) (drop-append-add (four w) (flat_map four ws) (4 * k)) ∙ four_part ws k (omega (arith, lt))

pub weight_stands : (collection bytes : List ℕ) (d : ℕ) → bytes ≡ weights_part collection → 1 ≤ d → d ≤ length (documents collection) →
    take 4 (drop (4 * (d - 1)) bytes) ≡ four (weight (document collection d))
weight_stands collection bytes d stand some le =
    let ds = documents collection in
    ap (λ b. take 4 (drop (4 * (d - 1)) b)) stand ∙ four_part (map weight ds) (d - 1) (omega (arith, some, le, length-map ds weight))
    ∙ ap four (get_or-map weight ds (d - 1) [] 0 (omega (arith, some, le))) ∙ ap (λ (x : List ℕ). four (weight x)) (sym (document_is collection d some))

-- ---- how great it is

root_small : (n r s : ℕ) → root_from n r s < r + 2 ^ n
unfolding root_from
root_small zero r s = omega arith
root_small (suc n) r s =
    let two : 2 ^ suc n ≡ 2 * 2 ^ n = omega (arith, two-pow-succ n) in
    cond_both (nat_le ((r + 2 ^ n) * (r + 2 ^ n)) s) (r + 2 ^ n) r (λ k. root_from n k s < r + 2 ^ suc n)
    (λ _. omega (arith, two, root_small n (r + 2 ^ n) s))
    (λ _. omega (arith, two, root_small n r s))

pub weight_small : (doc : List ℕ) → weight doc < 2 ^ 32
unfolding weight isqrt
weight_small doc = omega (arith, root_small 32 0 (sum_by (λ t. wd doc t * wd doc t) (sorted_distinct (terms doc))))

square_some : (doc t : List ℕ) → 1 ≤ wd doc t * wd doc t
unfolding weight_in_doc
square_some doc t = let low : 256 ≤ wd doc t = omega arith in omega (arith, mul-le 256 256 (wd doc t) (wd doc t) low low)

sum_some : (doc t : List ℕ) (ts : List (List ℕ)) → list_any (bytes_eq t) ts ≡ true → 1 ≤ sum_by (λ u. wd doc u * wd doc u) ts
sum_some doc t [] there = absurd (false≢true there)
sum_some doc t (u ∷ ts) there = omega (arith, sum_by-cons (λ v. wd doc v * wd doc v) u ts, square_some doc u)

short_at : (n : ℕ) (ds : List (List ℕ)) (k : ℕ) → AllByRecursion (λ (doc : List ℕ). length doc ≤ n) ds → length (get_or ds k []) ≤ n
short_at n [] k all = omega arith
short_at n (d ∷ ds) zero all = all.0
short_at n (d ∷ ds) (suc k) all = short_at n ds k all.1

one_there : (doc : List ℕ) (ts : List (List ℕ)) → list_any (has_term doc) ts ≡ true → (t : List ℕ) × (has_term doc t ≡ true)
one_there doc [] some = absurd (false≢true some)
one_there doc (t ∷ ts) some =
    elim (or_cases (has_term doc t) (list_any (has_term doc) ts) some) [
      | inl here ↦ (t, here)
      | inr there ↦ one_there doc ts there
    ]

pub weight_some : (collection : List ℕ) (ts : List (List ℕ)) (d : ℕ) → length collection < 2 ^ 32 → list_any (has_term (document collection d)) ts ≡ true → 1 ≤ weight (document collection d)
weight_some collection ts d short some =
    let doc = document collection d in
    let t = one_there doc ts some in
    let root = weight_root doc (omega (arith, short, short_at (length collection) ([] ∷ documents collection) d (omega arith, documents_short collection))) in
    let sum = sum_some doc t.0 (sorted_distinct (terms doc)) (has-sorted (terms doc) t.0 ∙ t.1) in
    elim (cases_lt 0 (weight doc)) [
      | inl lt ↦ omega (arith, lt)
      | inr none ↦ absurd (let z : weight doc ≡ 0 = omega (arith, none) in let one : (weight doc + 1) * (weight doc + 1) ≡ 1 = ap (λ w. (w + 1) * (w + 1)) z in omega (arith, one, sum, root.next))
    ]

-- a document that has a sum has a term
pub has_some : (collection : List ℕ) (ts : List (List ℕ)) (d v : ℕ) → so_far collection ts d ≡ Some v → list_any (has_term (document collection d)) ts ≡ true
has_some collection ts d v is =
    elim (cases_Bool (list_any (has_term (document collection d)) ts)) [
      | inl some ↦ some
      | inr none ↦ absurd (let bad : None ≡ Some v = sym (ap (λ b. if b then Some (part_sum collection ts d) else None) none) ∙ is in cc)
    ]

-- ---- the rows so far

pub rows_more : (collection : List ℕ) (sums : List (ℕ × ℕ)) (k : ℕ) (d e : ℕ × ℕ) → k < length sums → e ≡ slice_index_or sums k d →
    map (row_of collection) (take (k + 1) sums) ≡ map (row_of collection) (take k sums) ++ row_of collection e ∷ []
rows_more collection sums k d e lt is =
    ap (map (row_of collection)) (take_more sums k d lt) ∙ map-append (row_of collection) (take k sums) (slice_index_or sums k d ∷ [])
    ∙ ap (λ x. map (row_of collection) (take k sums) ++ row_of collection x ∷ []) (sym is)

pub row_is : (collection : List ℕ) (document sum w : ℕ) (score : ℕ) → score ≡ score_of sum w →
    w ≡ weight (Rattle.mg_defs.specs.Terms.document collection document) → record { number = document; score = score } ≡ row_of collection (document, sum)
row_is collection document sum w score is weight_is =
    let e : score ≡ score_of sum (weight (Rattle.mg_defs.specs.Terms.document collection document)) = is ∙ ap (score_of sum) weight_is in
    ap (λ (s : ℕ). record { number = document; score = s }) e

abbrev pub numbered : ℕ → Kept → Type 0
numbered all r = (1 ≤ r.document) × (r.document ≤ all)

pub numbered_more : (all : ℕ) (row : Kept) (old new : List Kept) → AreNumbered all old → (1 ≤ row.document) × (row.document ≤ all) → Offered kept_cmp row old new → AreNumbered all new
numbered_more all row old new h here (inl same) = All-permutation (numbered all) (row ∷ old) new same (All-cons (numbered all) row old here h)
numbered_more all row old new h here (inr g) = All-tail (numbered all) g.gone new (All-permutation (numbered all) (row ∷ old) (g.gone ∷ new) g.same (All-cons (numbered all) row old here h))

pub numbered_same : (all : ℕ) (old new : List Kept) → AreNumbered all old → IsPermutation old new → AreNumbered all new
numbered_same all old new h same = All-permutation (numbered all) old new same h
