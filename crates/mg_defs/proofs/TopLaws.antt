-- One list of hits is sorted: by falling score, ties by rising number.
use Rattle.std.proofs.Common.{◌≡◌, ℕ, ◌+◌, ◌<◌, ◌≤◌, ◌⊎◌, inl, inr, Bool, true, false, ◌==◌, ◌&&◌, List, [], ◌∷◌, refl, sym, ◌∙◌, ap, arith}
use Rattle.std.specs.List.{AllByRecursion, sum_by, list_any, enumerate_from}
use Rattle.std.specs.Prelude.{if◌then◌else◌, nat_le, map, filter}
use Rattle.std.specs.List.Sorted.{IsPermutation}
use Rattle.std.proofs.lemmas.List.Sums.{sum_by-cons}
use Rattle.std.proofs.lemmas.List.Sorted.{sum_by-IsPermutation, IsPermutation-refl, IsPermutation-sym, IsPermutation-trans, IsPermutation-cons, IsPermutation-middle}
use Rattle.std.proofs.lemmas.Bool.{cases_order, cases_lt, ne_eqb, eq-eqb, and_from, and_left, and_right, cond-true, cond-false, cond_both, leb-true, leb-false}
use Rattle.mg_defs.specs.Split.{documents}
use Rattle.mg_defs.specs.Weights.{Hit, inserted, by_score, scored_by, hits, has_term, score}
pub use Rattle.mg_defs.specs.Order.{RanksBefore, AreSorted, AreRisingByNumber}

abbrev pub is_hit : Hit → Hit → Bool
is_hit h other = h.number == other.number && h.score == other.score

abbrev pub one : Hit → Hit → ℕ
one h other = if is_hit h other then 1 else 0

abbrev pub many : Hit → List Hit → ℕ
many h hs = sum_by (one h) hs

-- the same hits, each as often
pub record SameHits (xs ys : List Hit) : Type 0 where
  pub counts : (h : Hit) → many h xs ≡ many h ys

many-cons : (h x : Hit) (xs : List Hit) → many h (x ∷ xs) ≡ one h x + many h xs
many-cons h x xs = sum_by-cons (one h) x xs

pub is_hit-self : (h : Hit) → is_hit h h ≡ true
is_hit-self h = and_from _ _ (eq-eqb h.number h.number refl) (eq-eqb h.score h.score refl)

before_other : (a b : Hit) → RanksBefore a b → is_hit a b ≡ false
before_other a b (inl lt) = and_right _ _ (ne_eqb a.score b.score (λ e. omega (arith, e, lt)))
before_other a b (inr p) = and_left _ _ (ne_eqb a.number b.number (λ e. omega (arith, e, p.1)))

before_before : (a b c : Hit) → RanksBefore a b → RanksBefore b c → RanksBefore a c
before_before a b c (inl p) (inl q) = inl (omega (arith, p, q))
before_before a b c (inl p) (inr q) = inl (omega (arith, p, q.0))
before_before a b c (inr p) (inl q) = inl (omega (arith, p.0, q))
before_before a b c (inr p) (inr q) = inr (p.0 ∙ q.0, omega (arith, p.1, q.1))

none_of : (h : Hit) (hs : List Hit) → AllByRecursion (RanksBefore h) hs → many h hs ≡ 0
none_of h [] all = refl
none_of h (other ∷ hs) all =
    let z : one h other ≡ 0 = cond-false (is_hit h other) 1 0 (before_other h other all.0) in
    many-cons h other hs ∙ omega (arith, z, none_of h hs all.1)

all_after : (a b : Hit) (hs : List Hit) → RanksBefore a b → AllByRecursion (RanksBefore b) hs → AllByRecursion (RanksBefore a) hs
all_after a b [] p all = tt
all_after a b (c ∷ hs) p all = (before_before a b c p all.0, all_after a b hs p all.1)

some_of : (h : Hit) (hs : List Hit) → 1 ≤ many h (h ∷ hs)
some_of h hs = let z : one h h ≡ 1 = cond-true (is_hit h h) 1 0 (is_hit-self h) in omega (arith, many-cons h h hs, z)

order : (a b : Hit) → (a ≡ b) ⊎ (RanksBefore a b ⊎ RanksBefore b a)
order a b =
    elim (cases_order a.score b.score) [
      | inl same ↦ elim (cases_order a.number b.number) [
        | inl e ↦ inl (λ i. record { number = e i; score = same i })
        | inr other ↦ elim other [
          | inl lt ↦ inr (inl (inr (same, lt)))
          | inr gt ↦ inr (inr (inr (sym same, gt)))
        ]
      ]
      | inr other ↦ elim other [
        | inl lt ↦ inr (inr (inl lt))
        | inr gt ↦ inr (inl (inl gt))
      ]
    ]

not_first : (a b : Hit) (xs ys : List Hit) → SameHits (a ∷ xs) (b ∷ ys) → RanksBefore a b → AllByRecursion (RanksBefore b) ys → ⊥
not_first a b xs ys same p all =
    omega (arith, some_of a xs, same.counts a, none_of a (b ∷ ys) (p, all_after a b ys p all))

pub one_order : (xs ys : List Hit) → AreSorted xs → AreSorted ys → SameHits xs ys → xs ≡ ys
one_order [] [] sx sy same = refl
one_order [] (b ∷ ys) sx sy same = absurd (omega (arith, some_of b ys, same.counts b))
one_order (a ∷ xs) [] sx sy same = absurd (omega (arith, some_of a xs, same.counts a))
one_order (a ∷ xs) (b ∷ ys) sx sy same =
    elim (order a b) [
      | inl e ↦
          let rest : SameHits xs ys = record { counts = λ h. fewer h e } in
          λ i. e i ∷ one_order xs ys sx.1 sy.1 rest i
      | inr other ↦ elim other [
        | inl p ↦ absurd (not_first a b xs ys same p sy.0)
        | inr p ↦ absurd (not_first b a ys xs (record { counts = λ h. sym (same.counts h) }) p sx.0)
      ]
    ]
  where
    fewer : (h : Hit) → a ≡ b → many h xs ≡ many h ys
    fewer h e = omega (arith, same.counts h, many-cons h a xs, many-cons h b ys, ap (one h) e)

pub same_from_permutation : (xs ys : List Hit) → IsPermutation xs ys → SameHits xs ys
same_from_permutation xs ys p = record { counts = λ h. sym (sum_by-IsPermutation (one h) xs ys p) }

-- ---- the computed order

placed_after : (a h : Hit) (hs : List Hit) → RanksBefore a h → AllByRecursion (RanksBefore a) hs → AllByRecursion (RanksBefore a) (inserted h hs)
placed_after a h [] p all = (p, tt)
placed_after a h (x ∷ hs) p all =
    cond_both (nat_le x.score h.score) (h ∷ x ∷ hs) (x ∷ inserted h hs) (AllByRecursion (RanksBefore a)) (λ _. (p, all)) (λ _. (all.0, placed_after a h hs p all.1))

pub placed_sorted : (h : Hit) (hs : List Hit) → AllByRecursion (λ (x : Hit). h.number < x.number) hs → AreSorted hs → AreSorted (inserted h hs)
placed_sorted h [] early s = (tt, tt)
placed_sorted h (x ∷ hs) early s =
    cond_both (nat_le x.score h.score) (h ∷ x ∷ hs) (x ∷ inserted h hs) AreSorted
    (λ t.
    let le = leb-true x.score h.score t in
    let first : RanksBefore h x = elim (cases_lt x.score h.score) [ inl lt ↦ inl lt | inr ge ↦ inr (omega (arith, le, ge), early.0) ] in
    ((first, all_after h x hs first s.0), s))
    (λ f. (placed_after x h hs (inl (leb-false x.score h.score f)) s.0, placed_sorted h hs early.1 s.1))

all_placed : (n : ℕ) (h : Hit) (hs : List Hit) → n < h.number → AllByRecursion (λ (x : Hit). n < x.number) hs → AllByRecursion (λ (x : Hit). n < x.number) (inserted h hs)
all_placed n h [] p all = (p, tt)
all_placed n h (x ∷ hs) p all =
    cond_both (nat_le x.score h.score) (h ∷ x ∷ hs) (x ∷ inserted h hs) (AllByRecursion (λ (y : Hit). n < y.number)) (λ _. (p, all)) (λ _. (all.0, all_placed n h hs p all.1))

all_by_score : (n : ℕ) (hs : List Hit) → AllByRecursion (λ (x : Hit). n < x.number) hs → AllByRecursion (λ (x : Hit). n < x.number) (by_score hs)
all_by_score n [] all = tt
all_by_score n (h ∷ hs) all = all_placed n h (by_score hs) all.0 (all_by_score n hs all.1)

placed_many : (k h : Hit) (hs : List Hit) → many k (inserted h hs) ≡ one k h + many k hs
placed_many k h [] = many-cons k h []
placed_many k h (x ∷ hs) =
    cond_both (nat_le x.score h.score) (h ∷ x ∷ hs) (x ∷ inserted h hs) (λ l. many k l ≡ one k h + many k (x ∷ hs))
    (λ _. many-cons k h (x ∷ hs))
    (λ _. omega (arith, many-cons k x (inserted h hs), placed_many k h hs, many-cons k x hs))

by_score_many : (k : Hit) (hs : List Hit) → many k (by_score hs) ≡ many k hs
by_score_many k [] = refl
by_score_many k (h ∷ hs) = omega (arith, placed_many k h (by_score hs), by_score_many k hs, many-cons k h hs)

pub by_score_sorted : (hs : List Hit) → AreRisingByNumber hs → AreSorted (by_score hs)
by_score_sorted [] r = tt
by_score_sorted (h ∷ hs) r = placed_sorted h (by_score hs) (all_by_score h.number hs r.0) (by_score_sorted hs r.1)

-- what a sort left is the computed order
pub order_is : (hs ys : List Hit) → AreRisingByNumber hs → AreSorted ys → IsPermutation hs ys → ys ≡ by_score hs
order_is hs ys r s p = one_order ys (by_score hs) s (by_score_sorted hs r) (record { counts = λ h. sym ((same_from_permutation hs ys p).counts h) ∙ sym (by_score_many h hs) })

-- ---- the computed order of the documents with a term of the query

placed_permutes : (h : Hit) (hs : List Hit) → IsPermutation (h ∷ hs) (inserted h hs)
placed_permutes h [] = IsPermutation-refl (h ∷ [])
placed_permutes h (x ∷ hs) =
    cond_both (nat_le x.score h.score) (h ∷ x ∷ hs) (x ∷ inserted h hs) (IsPermutation (h ∷ x ∷ hs))
    (λ _. IsPermutation-refl (h ∷ x ∷ hs))
    (λ _. IsPermutation-trans (h ∷ x ∷ hs) (x ∷ h ∷ hs) (x ∷ inserted h hs)
    (IsPermutation-sym (x ∷ h ∷ hs) (h ∷ x ∷ hs) (IsPermutation-middle (x ∷ []) h hs))
    (IsPermutation-cons x (h ∷ hs) (inserted h hs) (placed_permutes h hs)))

pub by_score_permutes : (hs : List Hit) → IsPermutation hs (by_score hs)
by_score_permutes [] = IsPermutation-refl []
by_score_permutes (h ∷ hs) =
    IsPermutation-trans (h ∷ hs) (h ∷ by_score hs) (inserted h (by_score hs))
    (IsPermutation-cons h hs (by_score hs) (by_score_permutes hs)) (placed_permutes h (by_score hs))

abbrev hit_of : (List ℕ → ℕ) → ℕ × List ℕ → Hit
hit_of score d = record { number = d.0; score = score d.1 }

abbrev is_met : List (List ℕ) → ℕ × List ℕ → Bool
is_met query d = list_any (has_term d.1) query

-- the numbers of what is met from document n on lie above m, and rise
hits_above : (score : List ℕ → ℕ) (query : List (List ℕ)) (m n : ℕ) (docs : List (List ℕ)) → m < n →
    AllByRecursion (λ (x : Hit). m < x.number) (map (hit_of score) (filter (is_met query) (enumerate_from n docs)))
hits_above score query m n [] lt = tt
hits_above score query m n (doc ∷ docs) lt =
    let rest = filter (is_met query) (enumerate_from (n + 1) docs) in
    let more = hits_above score query m (n + 1) docs (omega (arith, lt)) in
    cond_both (is_met query (n, doc)) ((n, doc) ∷ rest) rest (λ l. AllByRecursion (λ (x : Hit). m < x.number) (map (hit_of score) l))
    (λ _. (lt, more)) (λ _. more)

hits_rise_from : (score : List ℕ → ℕ) (query : List (List ℕ)) (n : ℕ) (docs : List (List ℕ)) → AreRisingByNumber (map (hit_of score) (filter (is_met query) (enumerate_from n docs)))
hits_rise_from score query n [] = tt
hits_rise_from score query n (doc ∷ docs) =
    let rest = filter (is_met query) (enumerate_from (n + 1) docs) in
    let more = hits_rise_from score query (n + 1) docs in
    cond_both (is_met query (n, doc)) ((n, doc) ∷ rest) rest (λ l. AreRisingByNumber (map (hit_of score) l))
    (λ _. (hits_above score query n (n + 1) docs (omega arith), more)) (λ _. more)

pub scored_rise : (score : List ℕ → ℕ) (collection : List ℕ) (terms : List (List ℕ)) → AreRisingByNumber (scored_by score collection terms)
scored_rise score collection terms = hits_rise_from score terms 1 (documents collection)

pub hits_rise : (collection : List ℕ) (query : List (List ℕ)) → AreRisingByNumber (hits collection query)
hits_rise collection query = scored_rise (score collection query) collection query

pub ranking_sorted : (collection : List ℕ) (query : List (List ℕ)) → AreSorted (by_score (hits collection query))
ranking_sorted collection query = by_score_sorted (hits collection query) (hits_rise collection query)

pub ranking_permutes : (collection : List ℕ) (query : List (List ℕ)) → IsPermutation (hits collection query) (by_score (hits collection query))
ranking_permutes collection query = by_score_permutes (hits collection query)

pub one_ranking : (collection : List ℕ) (query : List (List ℕ)) (order : List Hit) → AreSorted order → IsPermutation (hits collection query) order → order ≡ by_score (hits collection query)
one_ranking collection query order sorted permutes = order_is (hits collection query) order (hits_rise collection query) sorted permutes
