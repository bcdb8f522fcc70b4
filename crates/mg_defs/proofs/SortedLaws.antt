-- Laws of strings in order, each once.
use Rattle.std.proofs.Common.{◌≡◌, ℕ, zero, suc, ◌+◌, ◌<◌, ◌≤◌, Bool, true, false, ◌||◌, List, [], ◌∷◌, length, get_or, refl, sym, ◌∙◌, ap, arith, inl, inr, Contains, All, one-add}
use Rattle.std.specs.List.{AllByRecursion, list_any}
use Rattle.std.specs.List.Sorted.{IsStrictlySortedBy}
use Rattle.std.specs.Cmp.Lexicographic.{slice_cmp}
use Rattle.std.specs.declared.cmp.Ordering.{Ordering}
use Rattle.std.specs.declared.cmp.Ordering.TheVariants.{Less, Equal, Greater}
use Rattle.std.specs.Ordering.{nat_cmp, match_ordering, ordering_reverse, is_eq}
use Rattle.std.specs.Str.{bytes_eq}
use Rattle.std.specs.BTreeSet.{insert_key}
use Rattle.std.proofs.lemmas.Bool.{or_cases, or_left, or_right, false≢true, cases_Bool, false_from_ne_true}
use Rattle.std.proofs.lemmas.Cmp.{nat_list_cmp_total, nat_list_eq_equiv}
use Rattle.std.proofs.lemmas.Slice.Eq.{bytes_eq-Decides}
use Rattle.std.proofs.lemmas.Map.Text.{is_eq-slice_cmp}
use Rattle.std.proofs.lemmas.Map.Views.{Contains-from_any, list_any-from_Contains}
use Rattle.std.proofs.lemmas.List.Elements.{Contains-get_or}
use Rattle.mg_defs.specs.Sorted.{IsSortedDistinct, sorted_distinct, number_of}

abbrev order_of : List ℕ → List ℕ → Ordering
order_of a b = slice_cmp nat_cmp a b

abbrev has : List (List ℕ) → List ℕ → Bool
has strings s = list_any (bytes_eq s) strings

-- ---- the order

pub same-is : (a b : List ℕ) → bytes_eq a b ≡ true → a ≡ b
same-is a b h = (bytes_eq-Decides a b).0 h

pub same-refl : (a : List ℕ) → bytes_eq a a ≡ true
same-refl a = (bytes_eq-Decides a a).1 refl

pub other-isnt : (a b : List ℕ) → (a ≡ b → ⊥) → bytes_eq a b ≡ false
other-isnt a b ne = false_from_ne_true (bytes_eq a b) (λ h. ne (same-is a b h))

equal-is : (a b : List ℕ) → order_of a b ≡ Equal → a ≡ b
equal-is a b h = same-is a b (sym (is_eq-slice_cmp a b) ∙ ap is_eq h)

itself : (a : List ℕ) → order_of a a ≡ Less → ⊥
itself a h = false≢true (sym (ap is_eq h) ∙ (is_eq-slice_cmp a a ∙ same-refl a))

back : (a b : List ℕ) → order_of a b ≡ Greater → order_of b a ≡ Less
back a b h = nat_list_cmp_total.antisymm b a ∙ ap ordering_reverse h

-- ---- a string in its place

above-later : (s t : List ℕ) (strings : List (List ℕ)) → order_of s t ≡ Less → AllByRecursion (λ u. order_of t u ≡ Less) strings → AllByRecursion (λ u. order_of s u ≡ Less) strings
above-later s t [] l h = tt
above-later s t (u ∷ strings) l h = (nat_list_cmp_total.trans s t u l h.0, above-later s t strings l h.1)

above-insert : (s k : List ℕ) (strings : List (List ℕ)) → order_of s k ≡ Less → AllByRecursion (λ u. order_of s u ≡ Less) strings →
    AllByRecursion (λ u. order_of s u ≡ Less) (insert_key order_of strings k)
above-insert s k [] l h = (l, tt)
above-insert s k (t ∷ strings) l h = by (above-insert s k strings l h.1) (order_of k t)
  where
    by : AllByRecursion (λ u. order_of s u ≡ Less) (insert_key order_of strings k) → (r : Ordering) →
        AllByRecursion (λ u. order_of s u ≡ Less) (match_ordering r (k ∷ t ∷ strings) (t ∷ strings) (t ∷ insert_key order_of strings k))
    by more Less = (l, h)
    by more Equal = h
    by more Greater = (h.0, more)

rising-insert : (k : List ℕ) (strings : List (List ℕ)) → IsStrictlySortedBy order_of strings → IsStrictlySortedBy order_of (insert_key order_of strings k)
unfolding IsStrictlySortedBy
rising-insert k [] h = (tt, tt)
rising-insert k (t ∷ strings) h = by (rising-insert k strings h.1) (order_of k t) refl
  where
    by : IsStrictlySortedBy order_of (insert_key order_of strings k) → (r : Ordering) → order_of k t ≡ r →
        IsStrictlySortedBy order_of (match_ordering r (k ∷ t ∷ strings) (t ∷ strings) (t ∷ insert_key order_of strings k))
    by more Less e = ((e, above-later k t strings e h.0), h)
    by more Equal e = h
    by more Greater e = (above-insert t k strings (back k t e) h.0, more)

or-same : (a b c : Bool) → (a ≡ true → b ≡ true) → (b || c) ≡ (a || (b || c))
or-same true b c h = or_left b c (h refl)
or-same false b c h = refl

or-past : (a b c : Bool) → (b || (a || c)) ≡ (a || (b || c))
or-past true true c = refl
or-past true false c = refl
or-past false true c = refl
or-past false false c = refl

has-insert : (s k : List ℕ) (strings : List (List ℕ)) → has (insert_key order_of strings k) s ≡ (bytes_eq s k || has strings s)
has-insert s k [] = refl
has-insert s k (t ∷ strings) = by (has-insert s k strings) (order_of k t) refl
  where
    by : has (insert_key order_of strings k) s ≡ (bytes_eq s k || has strings s) → (r : Ordering) → order_of k t ≡ r →
        has (match_ordering r (k ∷ t ∷ strings) (t ∷ strings) (t ∷ insert_key order_of strings k)) s ≡ (bytes_eq s k || (bytes_eq s t || has strings s))
    by more Less e = refl
    by more Equal e = or-same (bytes_eq s k) (bytes_eq s t) (has strings s) (λ h. rw (equal-is k t e) at h)
    by more Greater e = ap (λ b. bytes_eq s t || b) more ∙ or-past (bytes_eq s k) (bytes_eq s t) (has strings s)

pub sorted-rising : (strings : List (List ℕ)) → IsStrictlySortedBy order_of (sorted_distinct strings)
unfolding IsStrictlySortedBy
sorted-rising [] = tt
sorted-rising (s ∷ strings) = rising-insert s (sorted_distinct strings) (sorted-rising strings)

-- the same strings
pub has-sorted : (strings : List (List ℕ)) (s : List ℕ) → has (sorted_distinct strings) s ≡ has strings s
has-sorted [] s = refl
has-sorted (t ∷ strings) s = has-insert s t (sorted_distinct strings) ∙ ap (λ b. bytes_eq s t || b) (has-sorted strings s)

with_short : (t : List ℕ) (ts : List (List ℕ)) → length (insert_key order_of ts t) ≤ length ts + 1
with_short t [] = omega arith
with_short t (u ∷ us) = by_order (with_short t us) (order_of t u)
  where
    by_order : length (insert_key order_of us t) ≤ length us + 1 → (o : Ordering) → length (match_ordering o (t ∷ u ∷ us) (u ∷ us) (u ∷ insert_key order_of us t)) ≤ length (u ∷ us) + 1
    by_order rest Less = omega arith
    by_order rest Equal = omega arith
    by_order rest Greater = omega (arith, rest)

-- no more than there were
pub distinct_short : (ts : List (List ℕ)) → length (sorted_distinct ts) ≤ length ts
distinct_short [] = omega arith
distinct_short (t ∷ ts) = omega (arith, with_short t (sorted_distinct ts), distinct_short ts)

-- ---- by membership

pub contains-from : (strings : List (List ℕ)) (s : List ℕ) → has strings s ≡ true → Contains strings s
contains-from strings s h = Contains-from_any same-is s strings h

pub has-from : (strings : List (List ℕ)) (s : List ℕ) → Contains strings s → has strings s ≡ true
has-from strings s c = list_any-from_Contains nat_list_eq_equiv s strings c

-- each string of one list is in the other
pub all-from : (xs ys : List (List ℕ)) → ((s : List ℕ) → has xs s ≡ true → has ys s ≡ true) → All (Contains ys) xs
all-from xs ys h k d l = contains-from ys (get_or xs k d) (h (get_or xs k d) (has-from xs (get_or xs k d) (Contains-get_or xs k d l)))

pub has-all : (xs ys : List (List ℕ)) → All (Contains ys) xs → (s : List ℕ) → has xs s ≡ true → has ys s ≡ true
has-all xs ys h s i = let c = contains-from xs s i in has-from ys s (rw c.2 at (h c.0 s c.1))

pub sorted-is : (strings : List (List ℕ)) → IsSortedDistinct strings (sorted_distinct strings)
sorted-is strings = record {
  rising = sorted-rising strings;
  each = all-from (sorted_distinct strings) strings (λ s h. sym (has-sorted strings s) ∙ h);
  all = all-from strings (sorted_distinct strings) (λ s h. has-sorted strings s ∙ h);
}

-- ---- there is only one

missing : (s : List ℕ) (strings : List (List ℕ)) → AllByRecursion (λ u. order_of s u ≡ Less) strings → has strings s ≡ true → ⊥
missing s [] h i = false≢true i
missing s (t ∷ strings) h i =
    elim (or_cases (bytes_eq s t) (has strings s) i) [
      | inl here ↦ itself s (rw (sym (same-is s t here)) at h.0)
      | inr there ↦ missing s strings h.1 there
    ]

found-above : (s t : List ℕ) (strings : List (List ℕ)) → AllByRecursion (λ u. order_of t u ≡ Less) strings → has strings s ≡ true → order_of t s ≡ Less
found-above s t [] h i = absurd (false≢true i)
found-above s t (u ∷ strings) h i =
    elim (or_cases (bytes_eq s u) (has strings s) i) [
      | inl here ↦ rw (same-is s u here) h.0
      | inr there ↦ found-above s t strings h.1 there
    ]

first-same : (x y : List ℕ) (xs ys : List (List ℕ)) → AllByRecursion (λ u. order_of x u ≡ Less) xs → AllByRecursion (λ u. order_of y u ≡ Less) ys →
    has (y ∷ ys) x ≡ true → has (x ∷ xs) y ≡ true → x ≡ y
first-same x y xs ys a b i j =
    elim (or_cases (bytes_eq x y) (has ys x) i) [
      | inl here ↦ same-is x y here
      | inr there ↦ elim (or_cases (bytes_eq y x) (has xs y) j) [
        | inl here ↦ sym (same-is y x here)
        | inr also ↦ absurd (itself x (nat_list_cmp_total.trans x y x (found-above y x xs a also) (found-above x y ys b there)))
      ]
    ]

-- what the tails have
tail-has : (x : List ℕ) (xs ys : List (List ℕ)) → AllByRecursion (λ u. order_of x u ≡ Less) xs →
    ((s : List ℕ) → has (x ∷ xs) s ≡ true → has (x ∷ ys) s ≡ true) → (s : List ℕ) → has xs s ≡ true → has ys s ≡ true
tail-has x xs ys a h s i =
    elim (or_cases (bytes_eq s x) (has ys s) (h s (or_right (bytes_eq s x) (has xs s) i))) [
      | inl here ↦ absurd (missing x xs a (rw (same-is s x here) at i))
      | inr there ↦ there
    ]

pub rising-unique : (xs ys : List (List ℕ)) → IsStrictlySortedBy order_of xs → IsStrictlySortedBy order_of ys →
    ((s : List ℕ) → has xs s ≡ true → has ys s ≡ true) → ((s : List ℕ) → has ys s ≡ true → has xs s ≡ true) → xs ≡ ys
unfolding IsStrictlySortedBy
rising-unique [] [] a b h k = refl
rising-unique [] (y ∷ ys) a b h k = absurd (false≢true (k y (or_left (bytes_eq y y) (has ys y) (same-refl y))))
rising-unique (x ∷ xs) [] a b h k = absurd (false≢true (h x (or_left (bytes_eq x x) (has xs x) (same-refl x))))
rising-unique (x ∷ xs) (y ∷ ys) a b h k =
    let e = first-same x y xs ys a.0 b.0 (h x (or_left (bytes_eq x x) (has xs x) (same-refl x))) (k y (or_left (bytes_eq y y) (has ys y) (same-refl y))) in
    let b2 = rw (sym e) at b.0 in
    let h2 = rw (sym e) at h in
    let k2 = rw (sym e) at k in
    let tails = rising-unique xs ys a.1 b.1 (tail-has x xs ys a.0 h2) (tail-has x ys xs b2 k2) in
    λ i. e i ∷ tails i

pub sorted-unique : (strings sorted : List (List ℕ)) → IsSortedDistinct strings sorted → sorted ≡ sorted_distinct strings
sorted-unique strings sorted h = rising-unique sorted (sorted_distinct strings) h.rising (sorted-rising strings)
    (λ s i. has-sorted strings s ∙ has-all sorted strings h.each s i)
    (λ s i. has-all strings sorted h.all s (sym (has-sorted strings s) ∙ i))

-- ---- numbers

pub number-found : (sorted : List (List ℕ)) (s : List ℕ) → has sorted s ≡ true → (number_of sorted s < length sorted) × (get_or sorted (number_of sorted s) s ≡ s)
number-found [] s h = absurd (false≢true h)
number-found (t ∷ sorted) s h =
    elim (cases_Bool (bytes_eq s t)) [
      | inl is ↦ rw is (omega arith, sym (same-is s t is))
      | inr isnt ↦ let more = number-found sorted s (rw isnt at h) in rw (isnt, one-add) (omega (arith, more.0), more.1)
    ]

pub number-missing : (sorted : List (List ℕ)) (s : List ℕ) → has sorted s ≡ false → number_of sorted s ≡ length sorted
number-missing [] s h = refl
number-missing (t ∷ sorted) s h =
    elim (cases_Bool (bytes_eq s t)) [
      | inl is ↦ absurd (false≢true (sym h ∙ or_left (bytes_eq s t) (has sorted s) is))
      | inr isnt ↦ rw (isnt, one-add) (ap suc (number-missing sorted s (rw isnt at h)))
    ]

-- the string of a number has that number
pub number-at : (sorted : List (List ℕ)) (k : ℕ) (d : List ℕ) → IsStrictlySortedBy order_of sorted → k < length sorted → number_of sorted (get_or sorted k d) ≡ k
unfolding IsStrictlySortedBy
number-at [] k d h l = elim l [ ]
number-at (t ∷ sorted) zero d h l = rw (same-refl t) refl
number-at (t ∷ sorted) (suc k) d h l =
    let within : k < length sorted = omega (arith, l) in
    let isnt = other-isnt (get_or sorted k d) t (λ e. missing t sorted h.0 (rw e at (has-from sorted (get_or sorted k d) (Contains-get_or sorted k d within)))) in
    rw (isnt, one-add) (ap suc (number-at sorted k d h.1 within))
