-- A string among strings that rise.
use Rattle.std.proofs.Common.{◌≡◌, ℕ, zero, suc, ◌+◌, ◌-◌, ◌<◌, ◌≤◌, ◌⊎◌, true, false, cond, List, [], ◌∷◌, ◌++◌, length, length-append, get_or, slice_get, position, Some, None, refl, sym, ap, subst, ◌∙◌, arith, inl, inr, ltb}
use Rattle.std.specs.List.{AllByRecursion, position_or_len}
use Rattle.std.specs.List.Sorted.{IsStrictlySortedBy}
use Rattle.std.specs.Ordering.{nat_cmp, is_eq, ordering_reverse, is_lt}
use Rattle.std.specs.declared.cmp.Ordering.{Ordering}
use Rattle.std.specs.declared.cmp.Ordering.TheVariants.{Less, Equal, Greater}
use Rattle.std.specs.Cmp.Lexicographic.{slice_cmp}
use Rattle.std.specs.Str.{bytes_eq}
use Rattle.std.proofs.lemmas.Bool.{cases_lt}
use Rattle.std.proofs.lemmas.Bool.Decides.{nat_tests}
use Rattle.std.proofs.lemmas.Cmp.{nat_list_cmp_total}
use Rattle.std.proofs.lemmas.List.Sums.{position_or_len_is}
use Rattle.std.proofs.lemmas.Map.Lookups.{exact_bytes}
use Rattle.std.proofs.lemmas.Map.Text.{is_eq-slice_cmp}
use Rattle.mg_defs.proofs.SortedLaws.{same-refl}

abbrev pub order : List ℕ → List ℕ → Ordering
order a b = slice_cmp nat_cmp a b

pub there-or : {X : Type 0} (xs : List X) (i : ℕ) (x d : X) → slice_get xs i ≡ Some x → get_or xs i d ≡ x
there-or [] i x d h = absurd cc
there-or (y ∷ ys) zero x d h = cc
there-or (y ∷ ys) (suc i) x d h = there-or ys i x d h

all-at : (t : List ℕ) (xs : List (List ℕ)) (k : ℕ) (d : List ℕ) → AllByRecursion (λ u. order t u ≡ Less) xs → k < length xs → order t (get_or xs k d) ≡ Less
all-at t [] k d h l = absurd (omega arith)
all-at t (x ∷ xs) zero d h l = h.0
all-at t (x ∷ xs) (suc k) d h l = all-at t xs k d h.1 (omega arith)

pub rising-at : (xs : List (List ℕ)) (j k : ℕ) (d : List ℕ) → IsStrictlySortedBy (slice_cmp nat_cmp) xs → j < k → k < length xs → order (get_or xs j d) (get_or xs k d) ≡ Less
unfolding IsStrictlySortedBy
rising-at [] j k d h less l = absurd (omega arith)
rising-at (x ∷ xs) j zero d h less l = absurd (omega arith)
rising-at (x ∷ xs) zero (suc k) d h less l = all-at x xs k d h.0 (omega arith)
rising-at (x ∷ xs) (suc j) (suc k) d h less l = rising-at xs j k d h.1 (omega arith) (omega arith)

back : (a b : List ℕ) → order a b ≡ Greater → order b a ≡ Less
back a b h = nat_list_cmp_total.antisymm b a ∙ ap ordering_reverse h

not-same : (a b : List ℕ) → order a b ≡ Less → bytes_eq a b ≡ false
not-same a b h = sym (is_eq-slice_cmp a b) ∙ ap is_eq h

not-same-back : (a b : List ℕ) → order b a ≡ Less → bytes_eq a b ≡ false
not-same-back a b h = sym (is_eq-slice_cmp a b) ∙ ap is_eq (nat_list_cmp_total.antisymm a b ∙ ap ordering_reverse h)

-- the strings before low are below the string, and those from high on above it
pub record Between (xs : List (List ℕ)) (s : List ℕ) (low high : ℕ) : Type 0 where
  pub below : (k : ℕ) → k < low → order (get_or xs k []) s ≡ Less
  pub above : (k : ℕ) → high ≤ k → k < length xs → order s (get_or xs k []) ≡ Less

pub between-all : (xs : List (List ℕ)) (s : List ℕ) (n : ℕ) → n ≡ length xs → Between xs s 0 n
between-all xs s n e = record { below = λ k h. absurd (omega arith); above = λ k h l. absurd (omega arith) }

split : (m k : ℕ) → m ≤ k → (m ≡ k) ⊎ (m < k)
split m k h = grind (arith, nat_tests)

pub between-lower : (xs : List (List ℕ)) (s x : List ℕ) (low high middle : ℕ) → IsStrictlySortedBy (slice_cmp nat_cmp) xs → Between xs s low high →
    slice_get xs middle ≡ Some x → order s x ≡ Less → Between xs s low middle
between-lower xs s x low high middle rising b there less = record {
  below = b.below;
  above = λ k h l.
      let here : order s (get_or xs middle []) ≡ Less = ap (order s) (there-or xs middle x [] there) ∙ less in
      elim (split middle k h) [
        | inl same ↦ subst (λ m. order s (get_or xs m []) ≡ Less) same here
        | inr later ↦ nat_list_cmp_total.trans s (get_or xs middle []) (get_or xs k []) here (rising-at xs middle k [] rising later l)
      ];
}

pub between-higher : (xs : List (List ℕ)) (s x : List ℕ) (low high middle next : ℕ) → next ≡ middle + 1 → IsStrictlySortedBy (slice_cmp nat_cmp) xs →
    Between xs s low high → middle < length xs → slice_get xs middle ≡ Some x → order s x ≡ Greater → Between xs s next high
between-higher xs s x low high middle next e rising b within there more = record {
  below = λ k h.
      let here : order (get_or xs middle []) s ≡ Less = ap (λ y. order y s) (there-or xs middle x [] there) ∙ back s x more in
      elim (split k middle (omega arith)) [
        | inl same ↦ subst (λ m. order (get_or xs m []) s ≡ Less) (sym same) here
        | inr before ↦ nat_list_cmp_total.trans (get_or xs k []) (get_or xs middle []) s (rising-at xs k middle [] rising before within) here
      ];
  above = b.above;
}

under : (m n : ℕ) → m < n → ltb m n ≡ true
under m n h = grind (arith, nat_tests)

itself : (n : ℕ) → ltb n n ≡ false
itself n = grind (arith, nat_tests)

pub found-at : (xs : List (List ℕ)) (s x : List ℕ) (middle : ℕ) → IsStrictlySortedBy (slice_cmp nat_cmp) xs → middle < length xs →
    slice_get xs middle ≡ Some x → order s x ≡ Equal → Some middle ≡ position (bytes_eq s) xs
found-at xs s x middle rising within there equal =
    let same : s ≡ x = exact_bytes s x equal in
    let here : get_or xs middle [] ≡ s = there-or xs middle x [] there ∙ sym same in
    let place : position_or_len (bytes_eq s) xs ≡ middle =
    position_or_len_is (bytes_eq s) xs middle [] (omega arith)
    (λ k h. not-same-back s (get_or xs k []) (subst (λ y. order (get_or xs k []) y ≡ Less) here (rising-at xs k middle [] rising h within)))
    (λ _. ap (bytes_eq s) here ∙ same-refl s) in
    sym (ap (λ n. cond (ltb n (length xs)) (Some n) None) place ∙ ap (λ b. cond b (Some middle) None) (under middle (length xs) within))

pub found-not : (xs : List (List ℕ)) (s : List ℕ) (low high : ℕ) → Between xs s low high → high ≤ low → None ≡ position (bytes_eq s) xs
found-not xs s low high b met =
    let apart : (k : ℕ) → k < length xs → bytes_eq s (get_or xs k []) ≡ false = λ k l. either k l (split-lt k low) in
    let place : position_or_len (bytes_eq s) xs ≡ length xs = position_or_len_is (bytes_eq s) xs (length xs) [] (omega arith) apart (λ h. absurd (omega arith)) in
    sym (ap (λ n. cond (ltb n (length xs)) (Some n) None) place ∙ ap (λ b. cond b (Some (length xs)) None) (itself (length xs)))
  where
    split-lt : (k n : ℕ) → (k < n) ⊎ (n ≤ k)
    split-lt k n = grind (arith, nat_tests)

    either : (k : ℕ) → k < length xs → (k < low) ⊎ (low ≤ k) → bytes_eq s (get_or xs k []) ≡ false
    either k l (inl before) = not-same-back s (get_or xs k []) (b.below k before)
    either k l (inr after) = not-same s (get_or xs k []) (b.above k (omega arith) l)

all-above : (a b : List ℕ) (xs : List (List ℕ)) → order a b ≡ Less → AllByRecursion (λ u. order b u ≡ Less) xs → AllByRecursion (λ u. order a u ≡ Less) xs
all-above a b [] l h = tt
all-above a b (x ∷ xs) l h = (nat_list_cmp_total.trans a b x l h.0, all-above a b xs l h.1)

-- each of the first strings is below the next one
pub record RiseTo (xs : List (List ℕ)) (n : ℕ) : Type 0 where
  pub next : (k : ℕ) → k + 1 < n → order (get_or xs k []) (get_or xs (k + 1) []) ≡ Less

less-of : (o : Ordering) → is_lt o ≡ true → o ≡ Less
less-of Less h = refl
less-of Equal h = absurd cc
less-of Greater h = absurd cc

pub rise-more : (xs : List (List ℕ)) (i : ℕ) (x y : List ℕ) → RiseTo xs i → 1 ≤ i → slice_get xs (i - 1) ≡ Some x → slice_get xs i ≡ Some y → is_lt (order x y) ≡ true → RiseTo xs (i + 1)
rise-more xs i x y before one h g below = record { next = λ k within. by k (split k (i - 1) (omega arith)) }
  where
    by : (k : ℕ) → (k ≡ i - 1) ⊎ (k < i - 1) → order (get_or xs k []) (get_or xs (k + 1) []) ≡ Less
    by k (inr early) = before.next k (omega arith)
    by k (inl last) =
        let n : k + 1 ≡ i = omega arith in
        ap (λ m. order (get_or xs m []) (get_or xs (k + 1) [])) last ∙ ap (λ m. order (get_or xs (i - 1) []) (get_or xs m [])) n
        ∙ ap (λ z. order z (get_or xs i [])) (there-or xs (i - 1) x [] h) ∙ ap (order x) (there-or xs i y [] g) ∙ less-of (order x y) below

pub rise-from : (ys : List (List ℕ)) → ((k : ℕ) → k + 1 < length ys → order (get_or ys k []) (get_or ys (k + 1) []) ≡ Less) → IsStrictlySortedBy (slice_cmp nat_cmp) ys
unfolding IsStrictlySortedBy
rise-from [] up = tt
rise-from (y ∷ []) up = (tt, tt)
rise-from (y ∷ z ∷ ys) up =
    let rest = rise-from (z ∷ ys) (λ k within. let n : suc k + 1 ≡ suc (k + 1) = omega arith in
    subst (λ m. order (get_or (z ∷ ys) k []) (get_or (y ∷ z ∷ ys) m []) ≡ Less) n (up (suc k) (omega (arith, within)))) in
    let next : order y z ≡ Less = up 0 (omega arith) in
    ((next, all-above y z ys next rest.0), rest)

pub rise-all : (xs : List (List ℕ)) (n : ℕ) → RiseTo xs n → length xs ≤ n → IsStrictlySortedBy (slice_cmp nat_cmp) xs
rise-all xs n h l = rise-from xs (λ k within. h.next k (omega arith))

get-left : (xs ys : List (List ℕ)) (k : ℕ) → k < length xs → slice_get (xs ++ ys) k ≡ slice_get xs k
get-left [] ys k within = absurd (omega arith)
get-left (x ∷ xs) ys zero within = refl
get-left (x ∷ xs) ys (suc k) within = get-left xs ys k (omega arith)

get-last : (xs : List (List ℕ)) (y : List ℕ) → slice_get (xs ++ y ∷ []) (length xs) ≡ Some y
get-last [] y = refl
get-last (x ∷ xs) y = get-last xs y

or-left : (xs ys : List (List ℕ)) (k : ℕ) → k < length xs → get_or (xs ++ ys) k [] ≡ get_or xs k []
or-left [] ys k within = absurd (omega arith)
or-left (x ∷ xs) ys zero within = refl
or-left (x ∷ xs) ys (suc k) within = or-left xs ys k (omega arith)

-- the last of some strings is this one, where there are any
abbrev pub EndsIn : List (List ℕ) → List ℕ → Type 0
EndsIn xs last = 0 < length xs → slice_get xs (length xs - 1) ≡ Some last

pub ends-in : (xs ys : List (List ℕ)) (y last : List ℕ) → ys ≡ xs ++ y ∷ [] → last ≡ y → EndsIn ys last
ends-in xs ys y last is same some =
    let long : length ys - 1 ≡ length xs = omega (arith, ap length is, length-append xs (y ∷ [])) in
    ap (slice_get ys) long ∙ ap (λ l. slice_get l (length xs)) is ∙ get-last xs y ∙ ap Some (sym same)

-- a string more, above the last one
pub rise-push : (xs ys : List (List ℕ)) (y last : List ℕ) → ys ≡ xs ++ y ∷ [] → RiseTo xs (length xs) → EndsIn xs last → (0 < length xs → is_lt (order last y) ≡ true) →
    RiseTo ys (length ys)
rise-push xs ys y last is before ends above = subst (λ l. RiseTo l (length l)) (sym is) (subst (RiseTo (xs ++ y ∷ [])) (sym long) by_length)
  where
    long : length (xs ++ y ∷ []) ≡ length xs + 1
    long = length-append xs (y ∷ [])

    first : RiseTo (xs ++ y ∷ []) (length xs)
    first = record {
      next = λ k within.
          ap (λ u. order u (get_or (xs ++ y ∷ []) (k + 1) [])) (or-left xs (y ∷ []) k (omega arith)) ∙ ap (order (get_or xs k [])) (or-left xs (y ∷ []) (k + 1) within)
          ∙ before.next k within;
    }

    by_length : RiseTo (xs ++ y ∷ []) (length xs + 1)
    by_length = by (cases_lt 0 (length xs))
      where
        by : (0 < length xs) ⊎ (length xs ≤ 0) → RiseTo (xs ++ y ∷ []) (length xs + 1)
        by (inr none) = record { next = λ k within. absurd (omega arith) }
        by (inl some) = rise-more (xs ++ y ∷ []) (length xs) last y first some (get-left xs (y ∷ []) (length xs - 1) (omega arith) ∙ ends some) (get-last xs y) (above some)
