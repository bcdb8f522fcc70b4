-- The squared weights summed over lists are those of each document.
use Rattle.std.proofs.Common.{arith, ◌≡◌, ◌+◌, ◌*◌, ◌^◌, ◌≤◌, ◌<◌, ◌==◌, ℕ, Bool, true, false, cond, List, [], ◌∷◌, ◌++◌, length, map, sum_by, refl, sym, ap, subst, ◌∙◌, inl, inr}
use Rattle.std.specs.Prelude.{filter}
use Rattle.std.specs.List.{list_any, AllByRecursion}
use Rattle.std.specs.List.Sorted.{IsStrictlySortedBy}
use Rattle.std.specs.Cmp.Lexicographic.{slice_cmp}
use Rattle.std.specs.Ordering.{nat_cmp}
use Rattle.std.specs.Str.{bytes_eq}
use Rattle.std.proofs.lemmas.Bool.{cases_Bool, cond_both, false≢true, ne_eqb, eq-eqb, eqb-true, or_cases, or_left, or_right}
use Rattle.std.proofs.lemmas.List.Kept.{IsStrictlySortedBy-filter}
use Rattle.std.proofs.lemmas.List.Sums.{sum_by-cons, sum_by-append}
use Rattle.mg_defs.proofs.ListLaws.{documents_short, terms_short}
use Rattle.std.proofs.lemmas.Nat.{mul-le}
use Rattle.mg_defs.proofs.WeightLaws.{lg_small}
use Rattle.mg_defs.specs.declared.Posting.{Posting}
use Rattle.mg_defs.specs.Fixed.{isqrt}
use Rattle.mg_defs.specs.Split.{documents}
use Rattle.mg_defs.specs.Sorted.{sorted_distinct}
use Rattle.mg_defs.specs.Terms.{freq_in, terms, dictionary, all_terms}
use Rattle.mg_defs.specs.Weights.{has_term, wd, weight, weight_in_doc}
use Rattle.mg_defs.specs.Lists.{inverted}
use Rattle.mg_defs.specs.Squares.{square_at, squares, squares_to, numbers_from}
use Rattle.mg_laws.proofs.InOrderLaws.{posting_in, list_from, list_hit, list_miss, in_doc, same_in_doc, none_in_doc, all_zero, terms_there, all_map, Have}
use Rattle.mg_defs.proofs.SortedLaws.{distinct_short, has-sorted, sorted-rising, rising-unique, same-is}

abbrev has : List (List ℕ) → List ℕ → Bool
has strings s = list_any (bytes_eq s) strings

-- ---- of one list

abbrev square_in : List ℕ → List ℕ → ℕ
square_in t doc = cond (has_term doc t) (wd doc t * wd doc t) 0

squares_hit : (d n : ℕ) (t doc : List ℕ) → has_term doc t ≡ true → square_at d (posting_in t (n, doc)) ≡ cond (n == d) (square_in t doc) 0
squares_hit d n t doc hit = ap (λ b. cond (n == d) (cond b (wd doc t * wd doc t) 0) 0) (sym hit)

squares_list : (d : ℕ) (t : List ℕ) (n : ℕ) (ds : List (List ℕ)) → sum_by (square_at d) (list_from t n ds) ≡ in_doc d n (square_in t) ds
squares_list d t n [] = refl
squares_list d t n (doc ∷ ds) =
    elim (cases_Bool (has_term doc t)) [
      | inl hit ↦
          ap (sum_by (square_at d)) (list_hit t n doc ds hit) ∙ sum_by-cons (square_at d) (posting_in t (n, doc)) (list_from t (n + 1) ds)
          ∙ ap (λ x. x + sum_by (square_at d) (list_from t (n + 1) ds)) (squares_hit d n t doc hit) ∙ ap (λ x. cond (n == d) (square_in t doc) 0 + x) (squares_list d t (n + 1) ds)
      | inr miss ↦
          ap (sum_by (square_at d)) (list_miss t n doc ds miss) ∙ squares_list d t (n + 1) ds
          ∙ sym (none_in_doc d n (square_in t) doc ds (ap (λ b. cond b (wd doc t * wd doc t) 0) miss))
    ]

-- ---- of several lists

both_in_doc : (d n : ℕ) (f g h : List ℕ → ℕ) (ds : List (List ℕ)) → AllByRecursion (λ doc. h doc ≡ f doc + g doc) ds → in_doc d n h ds ≡ in_doc d n f ds + in_doc d n g ds
both_in_doc d n f g h [] all = refl
both_in_doc d n f g h (doc ∷ ds) all = by_test (n == d) (h doc) (f doc) (g doc) _ _ _ all.0 (both_in_doc d (n + 1) f g h ds all.1)
  where
    by_test : (b : Bool) (x y z u v w : ℕ) → x ≡ y + z → u ≡ v + w → cond b x 0 + u ≡ cond b y 0 + v + (cond b z 0 + w)
    by_test true x y z u v w e k = omega (arith, e, k)
    by_test false x y z u v w e k = omega (arith, e, k)

abbrev sum_in : List (List ℕ) → List ℕ → ℕ
sum_in ts doc = sum_by (λ t. square_in t doc) ts

every : {X : Type 0} (P : X → Type 0) (xs : List X) → ((x : X) → P x) → AllByRecursion P xs
every P [] h = tt
every P (x ∷ xs) h = (h x, every P xs h)

squares_lists : (d : ℕ) (ds : List (List ℕ)) (ts : List (List ℕ)) → squares d (map (λ t. list_from t 1 ds) ts) ≡ in_doc d 1 (sum_in ts) ds
squares_lists d ds [] = sym (all_zero d 1 (sum_in []) ds (every (λ doc. sum_in [] doc ≡ 0) ds (λ doc. refl)))
squares_lists d ds (t ∷ ts) =
    sum_by-cons (λ ps. sum_by (square_at d) ps) (list_from t 1 ds) (map (λ u. list_from u 1 ds) ts)
    ∙ ap (λ x. x + squares d (map (λ u. list_from u 1 ds) ts)) (squares_list d t 1 ds) ∙ ap (λ x. in_doc d 1 (square_in t) ds + x) (squares_lists d ds ts)
    ∙ sym (both_in_doc d 1 (square_in t) (sum_in ts) (sum_in (t ∷ ts)) ds
    (every (λ doc. sum_in (t ∷ ts) doc ≡ square_in t doc + sum_in ts doc) ds (λ doc. sum_by-cons (λ u. square_in u doc) t ts)))

-- ---- over the terms that a document has

from_filter : (f : List ℕ → Bool) (ts : List (List ℕ)) (u : List ℕ) → has (filter f ts) u ≡ true → f u ≡ true
from_filter f [] u h = absurd (false≢true h)
from_filter f (t ∷ ts) u h =
    elim (cases_Bool (f t)) [
      | inl kept ↦ elim (or_cases (bytes_eq u t) (has (filter f ts) u) (subst (λ b. has (cond b (t ∷ filter f ts) (filter f ts)) u ≡ true) kept h)) [
        | inl here ↦ ap f (same-is u t here) ∙ kept
        | inr there ↦ from_filter f ts u there
      ]
      | inr gone ↦ from_filter f ts u (subst (λ b. has (cond b (t ∷ filter f ts) (filter f ts)) u ≡ true) gone h)
    ]

to_filter : (f : List ℕ → Bool) (ts : List (List ℕ)) (u : List ℕ) → has ts u ≡ true → f u ≡ true → has (filter f ts) u ≡ true
to_filter f [] u h k = h
to_filter f (t ∷ ts) u h k =
    elim (or_cases (bytes_eq u t) (has ts u) h) [
      | inl here ↦ (let kept : f t ≡ true = ap f (sym (same-is u t here)) ∙ k in
          subst (λ b. has (cond b (t ∷ filter f ts) (filter f ts)) u ≡ true) (sym kept) (or_left (bytes_eq u t) (has (filter f ts) u) here))
      | inr there ↦ (
          let more = to_filter f ts u there k in
          cond_both (f t) (t ∷ filter f ts) (filter f ts) (λ l. has l u ≡ true) (λ _. or_right (bytes_eq u t) (has (filter f ts) u) more) (λ _. more))
    ]

have_one : (strings ts : List (List ℕ)) (u : List ℕ) → Have strings ts → has ts u ≡ true → has strings u ≡ true
have_one strings [] u have h = absurd (false≢true h)
have_one strings (t ∷ ts) u have h =
    elim (or_cases (bytes_eq u t) (has ts u) h) [
      | inl here ↦ ap (has strings) (same-is u t here) ∙ have.0
      | inr there ↦ have_one strings ts u have.1 there
    ]

-- the distinct terms of a document are those of the dictionary that it has
distinct_are : (strings : List (List ℕ)) (doc : List ℕ) → IsStrictlySortedBy (slice_cmp nat_cmp) strings → Have strings (terms doc) → filter (has_term doc) strings ≡ sorted_distinct (terms doc)
distinct_are strings doc rising have =
    rising-unique (filter (has_term doc) strings) (sorted_distinct (terms doc)) (IsStrictlySortedBy-filter (slice_cmp nat_cmp) (has_term doc) strings rising) (sorted-rising (terms doc))
    (λ u there. has-sorted (terms doc) u ∙ from_filter (has_term doc) strings u there)
    (λ u there. let it : has (terms doc) u ≡ true = sym (has-sorted (terms doc) u) ∙ there in to_filter (has_term doc) strings u (have_one strings (terms doc) u have it) it)

sum_filter : (doc : List ℕ) (ts : List (List ℕ)) → sum_in ts doc ≡ sum_by (λ t. wd doc t * wd doc t) (filter (has_term doc) ts)
sum_filter doc [] = refl
sum_filter doc (t ∷ ts) =
    sum_by-cons (λ u. square_in u doc) t ts ∙ ap (λ x. square_in t doc + x) (sum_filter doc ts) ∙ by_test (has_term doc t)
  where
    f : List ℕ → ℕ
    f u = wd doc u * wd doc u

    rest : List (List ℕ)
    rest = filter (has_term doc) ts

    by_test : (b : Bool) → cond b (f t) 0 + sum_by f rest ≡ sum_by f (cond b (t ∷ rest) rest)
    by_test true = sym (sum_by-cons f t rest)
    by_test false = omega arith

abbrev sum_of : List ℕ → ℕ
sum_of doc = sum_by (λ t. wd doc t * wd doc t) (sorted_distinct (terms doc))

sum_is : (collection doc : List ℕ) → Have (dictionary collection) (terms doc) → sum_in (dictionary collection) doc ≡ sum_of doc
sum_is collection doc have =
    sum_filter doc (dictionary collection) ∙ ap (sum_by (λ t. wd doc t * wd doc t)) (distinct_are (dictionary collection) doc (sorted-rising (all_terms collection)) have)

pub squares_are : (collection : List ℕ) (d : ℕ) → squares d (inverted collection) ≡ in_doc d 1 sum_of (documents collection)
squares_are collection d =
    squares_lists d (documents collection) (dictionary collection)
    ∙ same_in_doc d 1 (sum_in (dictionary collection)) sum_of (documents collection)
    (all_map (λ doc. Have (dictionary collection) (terms doc)) (λ doc. sum_in (dictionary collection) doc ≡ sum_of doc) (documents collection)
    (λ doc have. sum_is collection doc have) (terms_there collection))

-- ---- of each document

past_in_doc : (d n : ℕ) (f : List ℕ → ℕ) (ds : List (List ℕ)) → d < n → in_doc d n f ds ≡ 0
past_in_doc d n f [] lt = refl
past_in_doc d n f (doc ∷ ds) lt = ap (λ b. cond b (f doc) 0 + in_doc d (n + 1) f ds) (ne_eqb n d (λ e. omega (arith, e, lt))) ∙ omega (arith, past_in_doc d (n + 1) f ds (omega (arith, lt)))

first_in_doc : (n : ℕ) (f : List ℕ → ℕ) (doc : List ℕ) (ds : List (List ℕ)) → in_doc n n f (doc ∷ ds) ≡ f doc
first_in_doc n f doc ds = ap (λ b. cond b (f doc) 0 + in_doc n (n + 1) f ds) (eq-eqb n n refl) ∙ omega (arith, past_in_doc n (n + 1) f ds (omega arith))

next_in_doc : (d n : ℕ) (f : List ℕ → ℕ) (doc : List ℕ) (ds : List (List ℕ)) → n + 1 ≤ d → in_doc d n f (doc ∷ ds) ≡ in_doc d (n + 1) f ds
next_in_doc d n f doc ds le = ap (λ b. cond b (f doc) 0 + in_doc d (n + 1) f ds) (ne_eqb n d (λ e. omega (arith, e, le))) ∙ omega arith

at_each : (n : ℕ) (f : List ℕ → ℕ) (h : ℕ → ℕ) (ds : List (List ℕ)) → ((d : ℕ) → n ≤ d → h d ≡ in_doc d n f ds) → map isqrt (map h (numbers_from n (length ds))) ≡ map (λ doc. isqrt (f doc)) ds
at_each n f h [] is = refl
at_each n f h (doc ∷ ds) is =
    let first : isqrt (h n) ≡ isqrt (f doc) = ap isqrt (is n (omega arith) ∙ first_in_doc n f doc ds) in
    let rest : map isqrt (map h (numbers_from (n + 1) (length ds))) ≡ map (λ x. isqrt (f x)) ds = at_each (n + 1) f h ds (λ d le. is d (omega (arith, le)) ∙ next_in_doc d n f doc ds le) in
    λ i. first i ∷ rest i

pub squares_weigh : (collection : List ℕ) → map isqrt (squares_to (length (documents collection)) (inverted collection)) ≡ map weight (documents collection)
unfolding weight
squares_weigh collection = at_each 1 sum_of (λ d. squares d (inverted collection)) (documents collection) (λ d le. squares_are collection d)

-- ---- sums never come to the end of 64 bits

small_in_doc : (d n m : ℕ) (f : List ℕ → ℕ) (ds : List (List ℕ)) → AllByRecursion (λ doc. f doc ≤ m) ds → in_doc d n f ds ≤ m
small_in_doc d n m f [] h = omega arith
small_in_doc d n m f (doc ∷ ds) h =
    elim (cases_Bool (n == d)) [
      | inl is ↦ (let same : n ≡ d = eqb-true n d is in subst (λ k. in_doc k n f (doc ∷ ds) ≤ m) same (omega (arith, first_in_doc n f doc ds, h.0)))
      | inr isnt ↦ omega (arith, ap (λ b. cond b (f doc) 0 + in_doc d (n + 1) f ds) isnt, small_in_doc d (n + 1) m f ds h.1)
    ]

square_small : (doc t : List ℕ) → wd doc t * wd doc t ≤ 2 ^ 29
unfolding weight_in_doc
square_small doc t =
    let small : wd doc t ≤ 16640 = omega (arith, lg_small (freq_in doc t)) in
    omega (arith, mul-le (wd doc t) (wd doc t) 16640 16640 small small)

sum_small : (doc : List ℕ) (ts : List (List ℕ)) → sum_by (λ t. wd doc t * wd doc t) ts ≤ length ts * 2 ^ 29
sum_small doc [] = omega arith
sum_small doc (t ∷ ts) = omega (arith, sum_by-cons (λ u. wd doc u * wd doc u) t ts, sum_small doc ts, square_small doc t)

sum_fits : (doc : List ℕ) (n : ℕ) → n < 2 ^ 32 → length doc ≤ n → sum_of doc ≤ 2 ^ 61
sum_fits doc n small short = omega (arith, sum_small doc (sorted_distinct (terms doc)), distinct_short (terms doc), terms_short doc, short, small)

pub squares_fit : (collection : List ℕ) (d : ℕ) → length collection < 2 ^ 32 → squares d (inverted collection) ≤ 2 ^ 61
squares_fit collection d small =
    omega (
      arith,
      squares_are collection d,
      small_in_doc d 1 (2 ^ 61) sum_of (documents collection)
          (all_map (λ (doc : List ℕ). length doc ≤ length collection) (λ doc. sum_of doc ≤ 2 ^ 61) (documents collection)
          (λ doc short. sum_fits doc (length collection) small short) (documents_short collection)),
    )

pub squares_append : (d : ℕ) (a b : List (List Posting)) → squares d (a ++ b) ≡ squares d a + squares d b
squares_append d a b = sum_by-append (λ ps. sum_by (square_at d) ps) a b
