-- A document's weight, and how many documents have each term, by the counts of its terms.
use Rattle.std.proofs.Common.{arith, ◌≡◌, ◌+◌, ◌*◌, ◌-◌, ◌<◌, ◌≤◌, ◌^◌, ◌||◌, ℕ, suc, Bool, true, false, cond, nat_lt, min, List, [], ◌∷◌, ◌++◌, length, drop, get_or, slice_index}
use Rattle.std.proofs.Common.{slice_set, map, filter, count_by, sum_by, All, refl, sym, ap, ◌∙◌, inl, inr, append_assoc, length-set}
use Rattle.std.specs.List.{AllByRecursion, enumerate_from, list_any}
use Rattle.std.specs.List.Sorted.{IsStrictlySortedBy}
use Rattle.std.specs.Ordering.{nat_cmp}
use Rattle.std.specs.Cmp.Lexicographic.{slice_cmp}
use Rattle.std.specs.declared.cmp.Ordering.TheVariants.{Less}
use Rattle.std.specs.Str.{bytes_eq}
use Rattle.std.proofs.lemmas.Bool.{cases_Bool, false≢true, or_cases, or_left, or_right}
use Rattle.std.proofs.lemmas.Bool.Decides.{nat_tests}
use Rattle.std.proofs.Math.Seq.{drop-cons}
use Rattle.std.proofs.lemmas.Grind.{common_steps}
use Rattle.std.proofs.lemmas.List.{get_or_default}
use Rattle.std.proofs.lemmas.List.Elements.{All-head, All-tail}
use Rattle.std.proofs.lemmas.List.Sums.{sum_by-cons}
use Rattle.mg_defs.specs.Fixed.{isqrt}
use Rattle.mg_defs.specs.Sorted.{number_of, sorted_distinct}
use Rattle.mg_defs.specs.Terms.{freq_in, same_term, terms}
use Rattle.mg_defs.specs.Weights.{has_term, weight, weight_in_doc, wd}
use Rattle.mg_defs.proofs.SortedLaws.{has-sorted, number-missing, rising-unique, same-is, sorted-rising}
use Rattle.mg_check_index.specs.Counting.{docs_among, one_more_each}
use Rattle.mg_check_parts.specs.TermsRead.{weight_of_counts}
use Rattle.mg_check_parts.specs.Documents.{counted_in, numbers_in}

abbrev has : List (List ℕ) → List ℕ → Bool
has strings s = list_any (bytes_eq s) strings

abbrev IsRising : List (List ℕ) → Type 0
IsRising ts = IsStrictlySortedBy (slice_cmp nat_cmp) ts

-- ---- the terms that a document has

filter_all : (P : List ℕ → Type 0) (p : List ℕ → Bool) (xs : List (List ℕ)) → AllByRecursion P xs → AllByRecursion P (filter p xs)
filter_all P p [] h = tt
filter_all P p (x ∷ xs) h = by (p x) (filter_all P p xs h.1)
  where
    by : (b : Bool) → AllByRecursion P (filter p xs) → AllByRecursion P (cond b (x ∷ filter p xs) (filter p xs))
    by true more = (h.0, more)
    by false more = more

filter_rising : (p : List ℕ → Bool) (xs : List (List ℕ)) → IsRising xs → IsRising (filter p xs)
unfolding IsStrictlySortedBy
filter_rising p [] h = tt
filter_rising p (x ∷ xs) h = by (p x) (filter_rising p xs h.1) (filter_all (λ u. slice_cmp nat_cmp x u ≡ Less) p xs h.0)
  where
    by : (b : Bool) → IsRising (filter p xs) → AllByRecursion (λ u. slice_cmp nat_cmp x u ≡ Less) (filter p xs) → IsRising (cond b (x ∷ filter p xs) (filter p xs))
    by true more first = (first, more)
    by false more first = more

filter_has : (p : List ℕ → Bool) (xs : List (List ℕ)) (s : List ℕ) → has (filter p xs) s ≡ true → p s ≡ true
filter_has p [] s h = absurd (false≢true h)
filter_has p (x ∷ xs) s h = by (p x) refl (filter_has p xs s) h
  where
    by : (b : Bool) → p x ≡ b → (has (filter p xs) s ≡ true → p s ≡ true) → has (cond b (x ∷ filter p xs) (filter p xs)) s ≡ true → p s ≡ true
    by true is more k = elim (or_cases (bytes_eq s x) (has (filter p xs) s) k) [ inl same ↦ ap p (same-is s x same) ∙ is | inr there ↦ more there ]
    by false isnt more k = more k

has_filter : (p : List ℕ → Bool) (xs : List (List ℕ)) (s : List ℕ) → has xs s ≡ true → p s ≡ true → has (filter p xs) s ≡ true
has_filter p [] s h k = absurd (false≢true h)
has_filter p (x ∷ xs) s h k = by (p x) refl (λ there. has_filter p xs s there k)
  where
    by : (b : Bool) → p x ≡ b → (has xs s ≡ true → has (filter p xs) s ≡ true) → has (cond b (x ∷ filter p xs) (filter p xs)) s ≡ true
    by true is more = elim (or_cases (bytes_eq s x) (has xs s) h) [
      | inl same ↦ or_left (bytes_eq s x) (has (filter p xs) s) same
      | inr there
          ↦ or_right (bytes_eq s x) (has (filter p xs) s) (more there)
    ]
    by false isnt more = elim (or_cases (bytes_eq s x) (has xs s) h) [ inl same ↦ absurd (false≢true (sym isnt ∙ (ap p (sym (same-is s x same)) ∙ k))) | inr there ↦ more there ]

-- what has a number below the count is there
numbered_there : (ts us : List (List ℕ)) (s : List ℕ) → All (λ n. n < length ts) (map (number_of ts) us) → has us s ≡ true → has ts s ≡ true
numbered_there ts [] s all h = absurd (false≢true h)
numbered_there ts (u ∷ us) s all h =
    let low : number_of ts u < length ts = All-head (λ n. n < length ts) (number_of ts u) (map (number_of ts) us) all in
    let rest = numbered_there ts us s (All-tail (λ n. n < length ts) (number_of ts u) (map (number_of ts) us) all) in
    elim (or_cases (bytes_eq s u) (has us s) h) [
      | inl same ↦ elim (cases_Bool (has ts s)) [ inl there ↦ there | inr none ↦ absurd (omega (arith, low, ap (number_of ts) (same-is s u same), number-missing ts s none)) ]
      | inr there ↦ rest there
    ]

terms_had : (ts : List (List ℕ)) (doc : List ℕ) → IsRising ts → All (λ n. n < length ts) (numbers_in ts doc) → sorted_distinct (terms doc) ≡ filter (has_term doc) ts
terms_had ts doc up low =
    rising-unique (sorted_distinct (terms doc)) (filter (has_term doc) ts) (sorted-rising (terms doc)) (filter_rising (has_term doc) ts up)
    (λ s h. let here : has (terms doc) s ≡ true = sym (has-sorted (terms doc) s) ∙ h in has_filter (has_term doc) ts s (numbered_there ts (terms doc) s low here) here)
    (λ s h. has-sorted (terms doc) s ∙ filter_has (has_term doc) ts s h)

-- ---- the weight

abbrev one_if : Bool → ℕ
one_if b = cond b 1 0

some_more : (b : Bool) (n : ℕ) → nat_lt 0 (one_if b + n) ≡ (b || nat_lt 0 n)
some_more true n = grind (arith, nat_tests)
some_more false n = let e : one_if false + n ≡ n = omega arith in ap (nat_lt 0) e

any_count : (f : List ℕ → Bool) (us : List (List ℕ)) → nat_lt 0 (count_by f us) ≡ list_any f us
any_count f [] = refl
any_count f (u ∷ us) = ap (nat_lt 0) (sum_by-cons (λ x. one_if (f x)) u us) ∙ some_more (f u) (count_by f us) ∙ ap (λ b. f u || b) (any_count f us)

abbrev pub freqs_from : ℕ → List (List ℕ) → List ℕ → List (ℕ × ℕ)
freqs_from k ds doc = filter (λ (e : ℕ × ℕ). nat_lt 0 e.1) (map (λ (e : ℕ × List ℕ). (e.0, freq_in doc e.1)) (enumerate_from k ds))

abbrev square_of : ℕ × ℕ → ℕ
square_of e = weight_in_doc e.1 * weight_in_doc e.1

abbrev square_in : List ℕ → List ℕ → ℕ
square_in doc t = wd doc t * wd doc t

squares_same : (k : ℕ) (ds : List (List ℕ)) (doc : List ℕ) → sum_by square_of (freqs_from k ds doc) ≡ sum_by (square_in doc) (filter (has_term doc) ds)
squares_same k [] doc = refl
squares_same k (d ∷ ds) doc =
    let test : nat_lt 0 (freq_in doc d) ≡ has_term doc d = any_count (same_term d) (terms doc) in
    ap (λ b. sum_by square_of (cond b ((k, freq_in doc d) ∷ freqs_from (k + 1) ds doc) (freqs_from (k + 1) ds doc))) test ∙ by (has_term doc d) (squares_same (k + 1) ds doc)
  where
    by : (b : Bool) → sum_by square_of (freqs_from (k + 1) ds doc) ≡ sum_by (square_in doc) (filter (has_term doc) ds) →
        sum_by square_of (cond b ((k, freq_in doc d) ∷ freqs_from (k + 1) ds doc) (freqs_from (k + 1) ds doc))
        ≡ sum_by (square_in doc) (cond b (d ∷ filter (has_term doc) ds) (filter (has_term doc) ds))
    by true rest = sum_by-cons square_of (k, freq_in doc d) (freqs_from (k + 1) ds doc) ∙ ap (λ n. square_in doc d + n) rest ∙ sym (sum_by-cons (square_in doc) d (filter (has_term doc) ds))
    by false rest = rest

pub weight_is : (ts : List (List ℕ)) (doc : List ℕ) (counted : List (ℕ × ℕ)) → IsRising ts → All (λ n. n < length ts) (numbers_in ts doc) →
    counted ≡ counted_in ts doc → weight_of_counts counted ≡ weight doc
unfolding weight
weight_is ts doc counted up low is =
    ap weight_of_counts is ∙ ap isqrt (squares_same 0 ts doc ∙ ap (sum_by (square_in doc)) (sym (terms_had ts doc up low)))

-- ---- how many documents have each term

set_here : (front xs : List ℕ) (x y : ℕ) → slice_set (front ++ x ∷ xs) (length front) y ≡ (front ++ y ∷ []) ++ xs
set_here [] xs x y = refl
set_here (f ∷ front) xs x y = ap (λ t. f ∷ t) (set_here front xs x y)

get_here : (front xs : List ℕ) (x : ℕ) → slice_index (front ++ x ∷ xs) (length front) ≡ x
get_here [] xs x = refl
get_here (f ∷ front) xs x = get_here front xs x

length_front : (front : List ℕ) (x : ℕ) → length (front ++ x ∷ []) ≡ length front + 1
length_front [] x = omega arith
length_front (f ∷ front) x = omega (arith, length_front front x)

each_more : (k : ℕ) (ds : List (List ℕ)) (doc front : List ℕ) (f g : List ℕ → ℕ) → k ≡ length front → ((t : List ℕ) → f t < 2 ^ 32 - 1) →
    ((t : List ℕ) → g t ≡ f t + one_if (has_term doc t)) → one_more_each (freqs_from k ds doc) (front ++ map f ds) ≡ front ++ map g ds
each_more k [] doc front f g at few more = refl
each_more k (d ∷ ds) doc front f g at few more =
    let test : nat_lt 0 (freq_in doc d) ≡ has_term doc d = any_count (same_term d) (terms doc) in
    ap (λ b. one_more_each (cond b ((k, freq_in doc d) ∷ freqs_from (k + 1) ds doc) (freqs_from (k + 1) ds doc)) (front ++ f d ∷ map f ds)) test
    ∙ by (has_term doc d) refl (λ y. each_more (k + 1) ds doc (front ++ y ∷ []) f g (omega (arith, at, length_front front y)) few more)
  where
    by : (b : Bool) → has_term doc d ≡ b → ((y : ℕ) → one_more_each (freqs_from (k + 1) ds doc) ((front ++ y ∷ []) ++ map f ds) ≡ (front ++ y ∷ []) ++ map g ds) →
        one_more_each (cond b ((k, freq_in doc d) ∷ freqs_from (k + 1) ds doc) (freqs_from (k + 1) ds doc)) (front ++ f d ∷ map f ds) ≡ front ++ g d ∷ map g ds
    by true e rest =
        let old : slice_index (front ++ f d ∷ map f ds) k ≡ f d = ap (λ n. slice_index (front ++ f d ∷ map f ds) n) at ∙ get_here front (map f ds) (f d) in
        let new : min (slice_index (front ++ f d ∷ map f ds) k + 1) (2 ^ 32 - 1) ≡ g d = omega (arith, old, few d, more d, ap one_if e) in
        let now : slice_set (front ++ f d ∷ map f ds) k (min (slice_index (front ++ f d ∷ map f ds) k + 1) (2 ^ 32 - 1)) ≡ (front ++ g d ∷ [])
        ++ map f ds = ap (λ y. slice_set (front ++ f d ∷ map f ds) k y) new ∙ ap (λ n. slice_set (front ++ f d ∷ map f ds) n (g d)) at
        ∙ set_here front (map f ds) (f d) (g d) in
        ap (one_more_each (freqs_from (k + 1) ds doc)) now ∙ rest (g d) ∙ append_assoc front (g d ∷ []) (map g ds)
    by false e rest =
        let same : f d ≡ g d = omega (arith, more d, ap one_if e) in
        ap (one_more_each (freqs_from (k + 1) ds doc)) (sym (append_assoc front (f d ∷ []) (map f ds))) ∙ rest (f d) ∙ append_assoc front (f d ∷ []) (map g ds) ∙ ap (λ y. front ++ y ∷ map g ds) same

among_end : (docs : List (List ℕ)) (doc t : List ℕ) → docs_among (docs ++ doc ∷ []) t ≡ docs_among docs t + one_if (has_term doc t)
among_end [] doc t = sum_by-cons (λ d. one_if (has_term d t)) doc [] ∙ omega arith
among_end (d ∷ docs) doc t = omega (arith, sum_by-cons (λ u. one_if (has_term u t)) d (docs ++ doc ∷ []), among_end docs doc t, sum_by-cons (λ u. one_if (has_term u t)) d docs)

among_few : (docs : List (List ℕ)) (t : List ℕ) → docs_among docs t ≤ length docs
among_few [] t = omega arith
among_few (d ∷ docs) t = let one : one_if (has_term d t) ≤ 1 = elim (cases_Bool (has_term d t)) [ inl e ↦ rw e (omega arith) | inr e ↦ rw e (omega arith) ] in
    omega (arith, sum_by-cons (λ u. one_if (has_term u t)) d docs, among_few docs t)

-- one document more
pub docs_counted : (ts docs : List (List ℕ)) (doc : List ℕ) (counted : List (ℕ × ℕ)) (old new : List ℕ) → length docs < 2 ^ 32 - 1 →
    counted ≡ counted_in ts doc → old ≡ map (docs_among docs) ts → new ≡ one_more_each counted old → new ≡ map (docs_among (docs ++ doc ∷ [])) ts
docs_counted ts docs doc counted old new few is was made =
    made ∙ ap (λ es. one_more_each es old) is ∙ ap (one_more_each (counted_in ts doc)) was
    ∙ each_more 0 ts doc [] (docs_among docs) (docs_among (docs ++ doc ∷ [])) refl (λ t. omega (arith, among_few docs t)) (λ t. among_end docs doc t)

-- the loop over counts: what is left to count, and as many terms as at first
pub record IsCounting (i : ℕ) (counted : List (ℕ × ℕ)) (first now : List ℕ) : Type 0 where
  pub is : one_more_each (drop i counted) now ≡ one_more_each counted first
  pub long : length now ≡ length first

pub counting_next : (i : ℕ) (counted : List (ℕ × ℕ)) (e : ℕ × ℕ) (first old new : List ℕ) (v : ℕ) → i < length counted → e ≡ get_or counted i e →
    v ≡ min (slice_index old e.0 + 1) (2 ^ 32 - 1) → new ≡ slice_set old e.0 v → IsCounting i counted first old → IsCounting (i + 1) counted first new
counting_next i counted e first old new v low at is made it =
    let one_up : suc i ≡ i + 1 = omega arith in
    let one : drop i counted ≡ get_or counted i e ∷ drop (suc i) counted = drop-cons counted i e low in
    let all : drop i counted ≡ e ∷ drop (i + 1) counted = one ∙ ap (λ (x : ℕ × ℕ). x ∷ drop (suc i) counted) (sym at) ∙ ap (λ k. e ∷ drop k counted) one_up in
    record {
      is = ap (one_more_each (drop (i + 1) counted)) (made ∙ ap (λ x. slice_set old e.0 x) is) ∙ ap (λ es. one_more_each es old) (sym all) ∙ it.is;
      long = ap length made ∙ length-set old e.0 v ∙ it.long;
    }

pub counting_all : (i : ℕ) (counted : List (ℕ × ℕ)) (first now : List ℕ) → length counted ≤ i → IsCounting i counted first now → now ≡ one_more_each counted first
counting_all i counted first now all it = ap (λ es. one_more_each es now) (sym (drop_end i counted all)) ∙ it.is
  where
    drop_end : (n : ℕ) (xs : List (ℕ × ℕ)) → length xs ≤ n → drop n xs ≡ []
    drop_end n xs h = grind (arith, common_steps)

pub counting_next_at : (i : ℕ) (counted : List (ℕ × ℕ)) (first old : List ℕ) (x v : ℕ) → i < length counted →
    ((k : ℕ) (d : ℕ × ℕ) → k < length counted → (get_or counted k d).0 < length first) → x ≡ get_or old (get_or counted i (0, 0)).0 x →
    v ≡ min (x + 1) (2 ^ 32 - 1) → IsCounting i counted first old → IsCounting (i + 1) counted first (slice_set old (get_or counted i (0, 0)).0 v)
counting_next_at i counted first old x v low all at is it =
    let e : ℕ × ℕ = get_or counted i (0, 0) in
    let here : e ≡ get_or counted i e = get_or_default counted i (0, 0) e low in
    let within : e.0 < length old = omega (arith, all i (0, 0) low, it.long) in
    let read : x ≡ slice_index old e.0 = at ∙ get_or_default old e.0 x 0 within in
    counting_next i counted e first old (slice_set old e.0 v) v low here (is ∙ ap (λ n. min (n + 1) (2 ^ 32 - 1)) read) refl it
