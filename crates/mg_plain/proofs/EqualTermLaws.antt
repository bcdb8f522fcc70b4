-- The squares over the runs of sorted terms are those over the distinct terms.
use Rattle.std.proofs.Common.{◌≡◌, ℕ, ◌+◌, Bool, true, false, cond, ◌||◌, if◌then◌else◌, List, [], ◌∷◌, refl, sym, ◌∙◌, ap, subst, arith, zero-add, inl, inr}
use Rattle.std.specs.Prelude.{sum_by, count_by}
use Rattle.std.specs.List.{AllByRecursion, list_any}
use Rattle.std.specs.List.Sorted.{IsPermutation, IsStrictlySortedBy}
use Rattle.std.specs.Str.{bytes_eq}
use Rattle.std.specs.Cmp.Lexicographic.{slice_cmp}
use Rattle.std.specs.declared.cmp.Ordering.{Ordering}
use Rattle.std.specs.declared.cmp.Ordering.TheVariants.{Less, Equal, Greater}
use Rattle.std.specs.Ordering.{nat_cmp, is_gt, is_eq}
use Rattle.std.proofs.lemmas.Bool.{cases_Bool, false≢true}
use Rattle.std.proofs.lemmas.Cmp.{nat_list_cmp_total}
use Rattle.std.proofs.lemmas.Map.Text.{is_eq-slice_cmp}
use Rattle.std.proofs.lemmas.List.Sums.{sum_by-cons}
use Rattle.std.proofs.lemmas.List.Sorted.{sum_by-IsPermutation, list_any-IsPermutation}
use Rattle.mg_defs.specs.Fixed.{isqrt}
use Rattle.mg_defs.specs.Sorted.{sorted_distinct}
use Rattle.mg_defs.specs.Terms.{terms}
use Rattle.mg_defs.specs.Weights.{weight}
use Rattle.mg_defs.proofs.SortedLaws.{same-is, same-refl, sorted-rising, rising-unique, has-sorted}
use Rattle.mg_plain.specs.EqualTerms.{Ascends, goes_on, square, squares}

abbrev order_of : List ℕ → List ℕ → Ordering
order_of a b = slice_cmp nat_cmp a b

abbrev has : List (List ℕ) → List ℕ → Bool
has strings s = list_any (bytes_eq s) strings

abbrev count_of : List (List ℕ) → List ℕ → ℕ
count_of ts t = count_by (bytes_eq t) ts

count-cons : (u : List ℕ) (ts : List (List ℕ)) (t : List ℕ) → count_of (u ∷ ts) t ≡ cond (bytes_eq t u) 1 0 + count_of ts t
count-cons u ts t = sum_by-cons (λ r. cond (bytes_eq t r) 1 0) u ts

-- ---- the order

equal-is : (a b : List ℕ) → order_of a b ≡ Equal → a ≡ b
equal-is a b h = same-is a b (sym (is_eq-slice_cmp a b) ∙ ap is_eq h)

below : (a b : List ℕ) → is_gt (order_of a b) ≡ false → bytes_eq a b ≡ false → order_of a b ≡ Less
below a b up apart = by (order_of a b) refl
  where
    by : (o : Ordering) → order_of a b ≡ o → order_of a b ≡ Less
    by Less e = e
    by Equal e = absurd (false≢true (sym apart ∙ (sym (is_eq-slice_cmp a b) ∙ ap is_eq e)))
    by Greater e = absurd (false≢true (sym up ∙ ap is_gt e))

below-more : (a b c : List ℕ) → order_of a b ≡ Less → is_gt (order_of b c) ≡ false → order_of a c ≡ Less
below-more a b c l up = by (order_of b c) refl
  where
    by : (o : Ordering) → order_of b c ≡ o → order_of a c ≡ Less
    by Less e = nat_list_cmp_total.trans a b c l e
    by Equal e = subst (λ (x : List ℕ). order_of a x ≡ Less) (equal-is b c e) l
    by Greater e = absurd (false≢true (sym up ∙ ap is_gt e))

all-above : (a b : List ℕ) (ts : List (List ℕ)) → order_of a b ≡ Less → Ascends (b ∷ ts) → AllByRecursion (λ u. order_of a u ≡ Less) (b ∷ ts)
all-above a b [] l up = (l, tt)
all-above a b (c ∷ ts) l up = (l, all-above a c ts (below-more a b c l up.0) up.1)

isnt-below : (a b : List ℕ) → order_of a b ≡ Less → bytes_eq b a ≡ false
isnt-below a b l =
    elim (cases_Bool (bytes_eq b a)) [
      | inl is ↦ absurd (itself a (subst (λ (x : List ℕ). order_of a x ≡ Less) (same-is b a is) l))
      | inr isnt ↦ isnt
    ]
  where
    itself : (x : List ℕ) → order_of x x ≡ Less → ⊥
    itself x h = false≢true (sym (ap is_eq h) ∙ (is_eq-slice_cmp x x ∙ same-refl x))

none-below : (a : List ℕ) (ts : List (List ℕ)) → AllByRecursion (λ u. order_of a u ≡ Less) ts → count_of ts a ≡ 0
none-below a [] h = refl
none-below a (u ∷ ts) h =
    elim (cases_Bool (bytes_eq a u)) [
      | inl is ↦ absurd (false≢true (sym (isnt-below a u h.0) ∙ subst (λ (x : List ℕ). bytes_eq x a ≡ true) (same-is a u is) (same-refl a)))
      | inr isnt ↦ count-cons u ts a ∙ ap (λ b. cond b 1 0 + count_of ts a) isnt ∙ zero-add (count_of ts a) ∙ none-below a ts h.1
    ]

-- ---- each once

abbrev once : List (List ℕ) → List (List ℕ)
once [] = []
once (t ∷ ts) = if goes_on t ts then once ts else t ∷ once ts

all-once : (P : List ℕ → Type 0) (ts : List (List ℕ)) → AllByRecursion P ts → AllByRecursion P (once ts)
all-once P [] h = tt
all-once P (t ∷ ts) h =
    elim (cases_Bool (goes_on t ts)) [
      | inl is ↦ rw is (all-once P ts h.1)
      | inr isnt ↦ rw isnt (h.0, all-once P ts h.1)
    ]

or-itself : (b c : Bool) → (b || c) ≡ (b || (b || c))
or-itself true c = refl
or-itself false c = refl

has-once : (ts : List (List ℕ)) (s : List ℕ) → has (once ts) s ≡ has ts s
has-once [] s = refl
has-once (t ∷ []) s = refl
has-once (t ∷ u ∷ ts) s =
    elim (cases_Bool (bytes_eq t u)) [
      | inl is ↦ rw is (has-once (u ∷ ts) s ∙ subst (λ (x : List ℕ). (bytes_eq s u || has ts s) ≡ (bytes_eq s x || (bytes_eq s u || has ts s)))
          (sym (same-is t u is)) (or-itself (bytes_eq s u) (has ts s)))
      | inr isnt ↦ rw isnt (ap (λ b. bytes_eq s t || b) (has-once (u ∷ ts) s))
    ]

rising-once : (ts : List (List ℕ)) → Ascends ts → IsStrictlySortedBy order_of (once ts)
unfolding IsStrictlySortedBy
rising-once [] up = tt
rising-once (t ∷ []) up = (tt, tt)
rising-once (t ∷ u ∷ ts) up =
    elim (cases_Bool (bytes_eq t u)) [
      | inl is ↦ rw is (rising-once (u ∷ ts) up.1)
      | inr isnt ↦ rw isnt (all-once _ (u ∷ ts) (all-above t u ts (below t u up.0 isnt) up.1), rising-once (u ∷ ts) up.1)
    ]

once-is : (ts : List (List ℕ)) → Ascends ts → once ts ≡ sorted_distinct ts
once-is ts up = rising-unique (once ts) (sorted_distinct ts) (rising-once ts up) (sorted-rising ts) (λ s i. has-sorted ts s ∙ (sym (has-once ts s) ∙ i))
    (λ s i. has-once ts s ∙ (sym (has-sorted ts s) ∙ i))

-- ---- the sum

sum-agree : (f g : List ℕ → ℕ) (ts : List (List ℕ)) → AllByRecursion (λ t. f t ≡ g t) ts → sum_by f ts ≡ sum_by g ts
sum-agree f g [] h = refl
sum-agree f g (t ∷ ts) h = omega (arith, sum_by-cons f t ts, sum_by-cons g t ts, h.0, sum-agree f g ts h.1)

-- how often a term comes, where so many of x were counted already
abbrev with_count : ℕ → List ℕ → List (List ℕ) → List ℕ → ℕ
with_count n x ts t = cond (bytes_eq t x) n 0 + count_of ts t

same-run : (n : ℕ) (x : List ℕ) (ts : List (List ℕ)) (t : List ℕ) → with_count (n + 1) x ts t ≡ with_count n x (x ∷ ts) t
same-run n x ts t =
    elim (cases_Bool (bytes_eq t x)) [
      | inl is ↦ ap (λ b. cond b (n + 1) 0 + count_of ts t) is ∙ (omega (arith, ap (λ b. cond b 1 0 + count_of ts t) is, count-cons x ts t) ∙ ap (λ b. cond b n 0 + count_of (x ∷ ts) t) (sym is))
      | inr isnt ↦ ap (λ b. cond b (n + 1) 0 + count_of ts t) isnt
          ∙ (omega (arith, ap (λ b. cond b 1 0 + count_of ts t) isnt, count-cons x ts t) ∙ ap (λ b. cond b n 0 + count_of (x ∷ ts) t) (sym isnt))
    ]

other-run : (n : ℕ) (x y : List ℕ) (ts : List (List ℕ)) (t : List ℕ) → order_of x t ≡ Less → with_count 0 y ts t ≡ with_count n x (x ∷ ts) t
other-run n x y ts t l =
    let isnt = isnt-below x t l in
    let none : ◌≡◌ {A = ℕ} (cond (bytes_eq t y) 0 0) 0 = elim (cases_Bool (bytes_eq t y)) [ inl e ↦ ap {B = ℕ} (λ b. cond b 0 0) e | inr e ↦ ap {B = ℕ} (λ b. cond b 0 0) e ] in
    let first : cond (bytes_eq t x) n 0 ≡ 0 = ap (λ b. cond b n 0) isnt in
    let one : ◌≡◌ {A = ℕ} (cond (bytes_eq t x) 1 0) 0 = ap {B = ℕ} (λ b. cond b 1 0) isnt in
    omega (arith, none, first, one, count-cons x ts t)

all-other : (n : ℕ) (x y : List ℕ) (ts us : List (List ℕ)) → AllByRecursion (λ u. order_of x u ≡ Less) us → AllByRecursion (λ t. square (with_count 0 y ts t) ≡ square (with_count n x (x ∷ ts) t)) us
all-other n x y ts [] h = tt
all-other n x y ts (u ∷ us) h = (ap square (other-run n x y ts u h.0), all-other n x y ts us h.1)

first-run : (n : ℕ) (x : List ℕ) (ts : List (List ℕ)) → count_of ts x ≡ 0 → with_count n x (x ∷ ts) x ≡ n + 1
first-run n x ts none =
    let first : cond (bytes_eq x x) n 0 ≡ n = ap (λ b. cond b n 0) (same-refl x) in
    let one : ◌≡◌ {A = ℕ} (cond (bytes_eq x x) 1 0) 1 = ap {B = ℕ} (λ b. cond b 1 0) (same-refl x) in
    omega (arith, first, one, none, count-cons x ts x)

squares-from : (n : ℕ) (x : List ℕ) (ts : List (List ℕ)) → Ascends (x ∷ ts) → squares n (x ∷ ts) ≡ sum_by (λ t. square (with_count n x (x ∷ ts) t)) (once (x ∷ ts))
squares-from n x [] up = ap (λ m. square m + 0) (sym (first-run n x [] refl)) ∙ sym (sum_by-cons (λ t. square (with_count n x (x ∷ []) t)) x [])
squares-from n x (y ∷ ts) up =
    elim (cases_Bool (bytes_eq x y)) [
      | inl is ↦
          let e : x ≡ y = same-is x y is in
          let fs : (λ t. square (with_count (n + 1) y (y ∷ ts) t)) ≡ (λ t. square (with_count n x (x ∷ y ∷ ts) t)) = λ i. λ t.
          square (((ap (λ z. with_count (n + 1) z (y ∷ ts) t) (sym e)) ∙ same-run n x (y ∷ ts) t) i) in
          rw is (squares-from (n + 1) y ts up.1 ∙ ap (λ (f : List ℕ → ℕ). sum_by f (once (y ∷ ts))) fs)
      | inr isnt ↦
          let above = all-above x y ts (below x y up.0 isnt) up.1 in
          let rest : sum_by (λ t. square (with_count 0 y (y ∷ ts) t)) (once (y ∷ ts)) ≡ sum_by (λ t. square (with_count n x (x ∷ y ∷ ts) t)) (once (y ∷ ts)) =
          sum-agree _ _ (once (y ∷ ts)) (all-other n x y (y ∷ ts) (once (y ∷ ts)) (all-once _ (y ∷ ts) above)) in
          let first : square (n + 1) ≡ square (with_count n x (x ∷ y ∷ ts) x) = ap square (sym (first-run n x (y ∷ ts) (none-below x (y ∷ ts) above))) in
          rw isnt (omega (arith, first, squares-from 0 y ts up.1, rest, sum_by-cons (λ t. square (with_count n x (x ∷ y ∷ ts) t)) x (once (y ∷ ts))))
    ]

squares-of : (ts : List (List ℕ)) → Ascends ts → squares 0 ts ≡ sum_by (λ t. square (count_of ts t)) (once ts)
squares-of [] up = refl
squares-of (x ∷ ts) up =
    let none : (t : List ℕ) → with_count 0 x (x ∷ ts) t ≡ count_of (x ∷ ts) t = λ t.
    elim (cases_Bool (bytes_eq t x)) [
      | inl e ↦ ap (λ b. cond b 0 0 + count_of (x ∷ ts) t) e ∙ zero-add (count_of (x ∷ ts) t)
      | inr e
          ↦ ap (λ b. cond b 0 0 + count_of (x ∷ ts) t) e ∙ zero-add (count_of (x ∷ ts) t)
    ] in
    let fs : (λ t. square (with_count 0 x (x ∷ ts) t)) ≡ (λ t. square (count_of (x ∷ ts) t)) = λ i. λ t. square (none t i) in
    squares-from 0 x ts up ∙ ap (λ (f : List ℕ → ℕ). sum_by f (once (x ∷ ts))) fs

-- the squares of sorted terms are those of the same terms in any order
pub squares-are : (terms sorted : List (List ℕ)) → IsPermutation terms sorted → Ascends sorted → squares 0 sorted ≡ sum_by (λ t. square (count_of terms t)) (sorted_distinct terms)
squares-are terms sorted same up =
    let has_same : (s : List ℕ) → has sorted s ≡ has terms s = λ s. sym (list_any-IsPermutation (bytes_eq s) terms sorted same) in
    let strings : sorted_distinct sorted ≡ sorted_distinct terms =
    rising-unique (sorted_distinct sorted) (sorted_distinct terms) (sorted-rising sorted) (sorted-rising terms)
    (λ s i. has-sorted terms s ∙ (sym (has_same s) ∙ (sym (has-sorted sorted s) ∙ i)))
    (λ s i. has-sorted sorted s ∙ (has_same s ∙ (sym (has-sorted terms s) ∙ i))) in
    let counts : (t : List ℕ) → count_of sorted t ≡ count_of terms t = λ t. sum_by-IsPermutation (λ r. cond (bytes_eq t r) 1 0) terms sorted same in
    let fs : (λ t. square (count_of sorted t)) ≡ (λ t. square (count_of terms t)) = λ i. λ t. square (counts t i) in
    squares-of sorted up ∙ (ap (λ (f : List ℕ → ℕ). sum_by f (once sorted)) fs ∙ ap (sum_by (λ t. square (count_of terms t))) (once-is sorted up ∙ strings))

pub squares-weigh : (doc : List ℕ) (sorted : List (List ℕ)) (x r : ℕ) → IsPermutation (terms doc) sorted → Ascends sorted → x ≡ squares 0 sorted → r ≡ isqrt x → r ≡ weight doc
unfolding weight
squares-weigh doc sorted x r same up e is = is ∙ ap isqrt (e ∙ squares-are (terms doc) sorted same up)
