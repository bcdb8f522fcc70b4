-- What a sort of rows leaves is the ranking.
use Rattle.std.proofs.Common.{◌≡◌, ℕ, suc, ◌+◌, ◌<◌, ◌≤◌, inl, inr, Bool, false, cond, ◌==◌, List, [], ◌∷◌, get_or, refl, sym, ◌∙◌, ap, subst, arith}
use Rattle.std.specs.Prelude.{sum_by}
use Rattle.std.specs.List.{AllByRecursion}
use Rattle.std.specs.List.Sorted.{IsPermutation, IsSortedBy}
use Rattle.std.specs.Cmp.{IsTotalOrder}
use Rattle.std.specs.declared.cmp.Ordering.{Ordering}
use Rattle.std.specs.Ordering.{nat_cmp, is_lt, on, flip_args, then_cmp, ordering_then}
use Rattle.std.proofs.lemmas.Bool.{cases_eq, eq-eqb, ne_eqb, true≢false}
use Rattle.std.proofs.lemmas.Cmp.{nat_cmp_total, on_total, then_total, back_total, ranked, by_ranked}
use Rattle.std.proofs.lemmas.List.Sums.{sum_by-cons}
use Rattle.std.proofs.lemmas.List.Sorted.{sum_by-IsPermutation, IsPermutation-map}
use Rattle.mg_defs.specs.Weights.{Hit, by_score}
use Rattle.mg_defs.specs.Order.{RanksBefore, AreSorted, AreRisingByNumber}
use Rattle.mg_defs.proofs.TopLaws.{order_is}
use Rattle.mg_plain.specs.declared.order.Row.{Row}
use Rattle.mg_plain.specs.RankedRows.{hit_of, hits_of}

abbrev pub row_cmp : Row → Row → Ordering
row_cmp = then_cmp (on (λ (r : Row). r.score) (flip_args nat_cmp)) (on (λ (r : Row). r.number) nat_cmp)

abbrev pub is_above : Row → Row → Bool
is_above x y = is_lt (row_cmp x y)

pub row_total : IsTotalOrder row_cmp
row_total = then_total (on_total (λ (r : Row). r.score) (back_total nat_cmp_total)) (on_total (λ (r : Row). r.number) nat_cmp_total)

-- ---- each number once

abbrev numbered : ℕ → List Hit → ℕ
numbered n hs = sum_by (λ h. cond (h.number == n) 1 0) hs

numbered-cons : (n : ℕ) (h : Hit) (hs : List Hit) → numbered n (h ∷ hs) ≡ cond (h.number == n) 1 0 + numbered n hs
numbered-cons n h hs = sum_by-cons (λ (x : Hit). cond (x.number == n) 1 0) h hs

one_of : (n : ℕ) (h : Hit) → h.number ≡ n → ◌≡◌ {A = ℕ} (cond (h.number == n) 1 0) 1
one_of n h e = ap {B = ℕ} (λ b. cond b 1 0) (eq-eqb h.number n e)

none_of : (n : ℕ) (h : Hit) → (h.number ≡ n → ⊥) → ◌≡◌ {A = ℕ} (cond (h.number == n) 1 0) 0
none_of n h ne = ap {B = ℕ} (λ b. cond b 1 0) (ne_eqb h.number n ne)

none_later : (m n : ℕ) (hs : List Hit) → n ≤ m → AllByRecursion (λ (x : Hit). m < x.number) hs → numbered n hs ≡ 0
none_later m n [] le all = refl
none_later m n (h ∷ hs) le all = omega (arith, numbered-cons n h hs, none_of n h (λ e. omega (arith, e, all.0, le)), none_later m n hs le all.1)

rising_once : (n : ℕ) (hs : List Hit) → AreRisingByNumber hs → numbered n hs ≤ 1
rising_once n [] up = omega arith
rising_once n (h ∷ hs) up =
    elim (cases_eq h.number n) [
      | inl e ↦ omega (arith, numbered-cons n h hs, one_of n h e, none_later h.number n hs (omega (arith, e)) up.0)
      | inr ne ↦ omega (arith, numbered-cons n h hs, none_of n h ne, rising_once n hs up.1)
    ]

-- ---- the order

before_before : (a b c : Hit) → RanksBefore a b → RanksBefore b c → RanksBefore a c
before_before a b c (inl p) (inl q) = inl (omega (arith, p, q))
before_before a b c (inl p) (inr q) = inl (omega (arith, p, q.0))
before_before a b c (inr p) (inl q) = inl (omega (arith, p.0, q))
before_before a b c (inr p) (inr q) = inr (p.0 ∙ q.0, omega (arith, p.1, q.1))

-- each before the next
abbrev Chain : List Hit → Type 0
Chain [] = Unit {0}
Chain (a ∷ []) = Unit {0}
Chain (a ∷ b ∷ hs) = RanksBefore a b × Chain (b ∷ hs)

all_before : (a b : Hit) (hs : List Hit) → RanksBefore a b → Chain (b ∷ hs) → AllByRecursion (RanksBefore a) (b ∷ hs)
all_before a b [] p c = (p, tt)
all_before a b (x ∷ hs) p c = (p, all_before a x hs (before_before a b x p c.0) c.1)

sorted_chain : (hs : List Hit) → Chain hs → AreSorted hs
sorted_chain [] c = tt
sorted_chain (a ∷ []) c = (tt, tt)
sorted_chain (a ∷ b ∷ hs) c = (all_before a b hs c.0 c.1, sorted_chain (b ∷ hs) c.1)

-- two rows of which the second is not above the first, and their numbers differ
before_from : (x y : Row) → is_above y x ≡ false → (x.number ≡ y.number → ⊥) → RanksBefore (hit_of x) (hit_of y)
before_from x y h ne =
    by_ranked _ _ _ (nat_cmp x.score y.score) (ranked x.score y.score (nat_cmp x.score y.score) refl)
    (λ e lt. absurd (true≢false (sym (ap (λ o. is_lt (ordering_then o (nat_cmp y.number x.number))) e) ∙ h)))
    (λ e same. by_ranked _ _ _ (nat_cmp y.number x.number) (ranked y.number x.number (nat_cmp y.number x.number) refl)
    (λ d lt. absurd (true≢false (sym (ap (λ o. is_lt (ordering_then o (nat_cmp y.number x.number))) e ∙ ap is_lt d) ∙ h)))
    (λ d tied. absurd (ne (sym tied)))
    (λ d gt. inr (same, gt)))
    (λ e gt. inl gt)

later : (x : Row) (xs : List Row) → IsSortedBy is_above (x ∷ xs) → IsSortedBy is_above xs
later x xs h k d low lt =
    let e : suc k + 1 ≡ suc (k + 1) = omega arith in
    subst (λ n. is_above (get_or (x ∷ xs) n d) (get_or xs k d) ≡ false) e (h (suc k) d (omega arith) (omega (arith, lt)))

chain_from : (xs : List Row) → IsSortedBy is_above xs → ((n : ℕ) → numbered n (hits_of xs) ≤ 1) → Chain (hits_of xs)
chain_from [] h once = tt
chain_from (x ∷ []) h once = tt
chain_from (x ∷ y ∷ xs) h once =
    let apart : x.number ≡ y.number → ⊥ = λ e. omega (
      arith,
      once y.number,
      numbered-cons y.number (hit_of x) (hits_of (y ∷ xs)),
      numbered-cons y.number (hit_of y) (hits_of xs),
      one_of y.number (hit_of x) e,
      one_of y.number (hit_of y) refl,
    ) in
    let first : is_above y x ≡ false = h 0 x (omega arith) (omega arith) in
    (before_from x y first apart, chain_from (y ∷ xs) (later x (y ∷ xs) h) (λ n. omega (arith, once n, numbered-cons n (hit_of x) (hits_of (y ∷ xs)))))

pub ranking_from : (xs ys : List Row) → AreRisingByNumber (hits_of xs) → IsPermutation xs ys → IsSortedBy is_above ys → hits_of ys ≡ by_score (hits_of xs)
ranking_from xs ys up same sorted =
    let hits = IsPermutation-map hit_of xs ys same in
    let once : (n : ℕ) → numbered n (hits_of ys) ≤ 1 = λ n. omega (arith, sum_by-IsPermutation (λ (h : Hit). cond (h.number == n) 1 0) (hits_of xs) (hits_of ys) hits, rising_once n (hits_of xs) up) in
    order_is (hits_of xs) (hits_of ys) up (sorted_chain (hits_of ys) (chain_from ys sorted once)) hits
