-- Laws of vocabularies.
use Rattle.std.proofs.Common.{◌↔◌, ◌≡◌, ℕ, ◌+◌, ◌≤◌, Bool, true, false, not, ◌||◌, cond, List, [], ◌∷◌, ◌++◌, length, refl, sym, ◌∙◌, ap, subst, arith, inl, inr, map, filter, append_assoc, append-nil, length-append, add-zero, suc, All, Contains}
use Rattle.std.specs.List.{AllByRecursion, list_any, IsDistinct}
use Rattle.std.specs.Ordering.{nat_cmp}
use Rattle.std.specs.Cmp.Lexicographic.{slice_cmp}
use Rattle.std.specs.Str.{bytes_eq}
use Rattle.std.proofs.lemmas.Bool.{or_cases, or_parts, or_left, or_right, false≢true, cases_Bool, not_from_false}
use Rattle.std.proofs.lemmas.Cmp.{nat_list_eq_equiv}
use Rattle.std.proofs.lemmas.List.{map-append}
use Rattle.std.proofs.lemmas.List.Elements.{filter-append, All-from_recursion}
use Rattle.std.proofs.lemmas.List.Sums.{sum_by_push, sum_by-cons}
use Rattle.std.proofs.lemmas.Map.Keys.{IsDistinct-from_sorted}
use Rattle.std.proofs.lemmas.Map.Made.{length-from_same_keys}
use Rattle.std.proofs.lemmas.Map.Text.{is_eq-slice_cmp}
use Rattle.std.proofs.lemmas.Map.Views.{any-filter_same}
use Rattle.mg_defs.specs.declared.Stream.{Stream}
use Rattle.mg_defs.specs.Sorted.{sorted_distinct}
use Rattle.mg_defs.specs.FirstAppearances.{first_appearances}
use Rattle.mg_defs.specs.Vocabulary.{count_in, vocabulary, has_piece, counted, entry_count, total, sorted_of, counts_of, all_pieces, sorted_pieces, piece_counts}
use Rattle.mg_defs.proofs.SortedLaws.{same-is, same-refl, sorted-rising, rising-unique, has-sorted, contains-from, has-from}

abbrev has : List (List ℕ) → List ℕ → Bool
has strings s = list_any (bytes_eq s) strings

same-sym : (a b : List ℕ) → bytes_eq a b ≡ bytes_eq b a
same-sym a b = nat_list_eq_equiv.symm a b

-- ---- first appearances

first-new : (pieces : List (List ℕ)) (p : List ℕ) → has pieces p ≡ false → first_appearances (pieces ++ p ∷ []) ≡ first_appearances pieces ++ p ∷ []
first-new [] p h = refl
first-new (q ∷ pieces) p h =
    let parts = or_parts (bytes_eq p q) (has pieces p) h in
    let apart : bytes_eq q p ≡ false = same-sym q p ∙ parts.0 in
    rw (first-new pieces p parts.1, filter-append (λ r. not (bytes_eq q r)) (first_appearances pieces) (p ∷ []), apart) refl

first-seen : (pieces : List (List ℕ)) (p : List ℕ) → has pieces p ≡ true → first_appearances (pieces ++ p ∷ []) ≡ first_appearances pieces
first-seen [] p h = absurd (false≢true h)
first-seen (q ∷ pieces) p h =
    elim (cases_Bool (has pieces p)) [
      | inl later ↦ rw (first-seen pieces p later) refl
      | inr none ↦ elim (or_cases (bytes_eq p q) (has pieces p) h) [
        | inl here ↦
            let tied : bytes_eq q p ≡ true = same-sym q p ∙ here in
            rw (
              first-new pieces p none,
              filter-append (λ r. not (bytes_eq q r)) (first_appearances pieces) (p ∷ []),
              tied,
              append-nil (filter (λ r. not (bytes_eq q r)) (first_appearances pieces)),
            ) refl
        | inr there ↦ absurd (false≢true (sym none ∙ there))
      ]
    ]

pub has-first : (pieces : List (List ℕ)) (s : List ℕ) → has (first_appearances pieces) s ≡ has pieces s
has-first [] s = refl
has-first (q ∷ pieces) s =
    elim (cases_Bool (bytes_eq s q)) [
      | inl is ↦ rw is refl
      | inr isnt ↦
          let kept = any-filter_same (bytes_eq s) (λ r. not (bytes_eq q r)) true (λ r e. not_from_false (bytes_eq q r) (rw (same-is s r e) at (same-sym q s ∙ isnt))) (first_appearances pieces) in
          rw (isnt, kept) (has-first pieces s)
    ]

apart-filter : (p q : List ℕ) (strings : List (List ℕ)) → AllByRecursion (λ y. bytes_eq p y ≡ false) strings → AllByRecursion (λ y. bytes_eq p y ≡ false) (filter (λ r. not (bytes_eq q r)) strings)
apart-filter p q [] h = tt
apart-filter p q (s ∷ strings) h =
    elim (cases_Bool (bytes_eq q s)) [
      | inl is ↦ rw is (apart-filter p q strings h.1)
      | inr isnt ↦ rw isnt (h.0, apart-filter p q strings h.1)
    ]

distinct-filter : (q : List ℕ) (strings : List (List ℕ)) → IsDistinct bytes_eq strings → IsDistinct bytes_eq (filter (λ r. not (bytes_eq q r)) strings)
unfolding IsDistinct
distinct-filter q [] h = tt
distinct-filter q (s ∷ strings) h =
    elim (cases_Bool (bytes_eq q s)) [
      | inl is ↦ rw is (distinct-filter q strings h.1)
      | inr isnt ↦ rw isnt (apart-filter s q strings h.0, distinct-filter q strings h.1)
    ]

filtered-apart : (q : List ℕ) (strings : List (List ℕ)) → AllByRecursion (λ y. bytes_eq q y ≡ false) (filter (λ r. not (bytes_eq q r)) strings)
filtered-apart q [] = tt
filtered-apart q (s ∷ strings) =
    elim (cases_Bool (bytes_eq q s)) [
      | inl is ↦ rw is (filtered-apart q strings)
      | inr isnt ↦ rw isnt (isnt, filtered-apart q strings)
    ]

pub distinct-first : (pieces : List (List ℕ)) → IsDistinct bytes_eq (first_appearances pieces)
unfolding IsDistinct
distinct-first [] = tt
distinct-first (q ∷ pieces) = (filtered-apart q (first_appearances pieces), distinct-filter q (first_appearances pieces) (distinct-first pieces))

-- ---- counts

count-push : (pieces : List (List ℕ)) (p q : List ℕ) → count_in (pieces ++ p ∷ []) q ≡ count_in pieces q + cond (bytes_eq q p) 1 0
count-push pieces p q = sum_by_push (λ r. cond (bytes_eq q r) 1 0) pieces p

abbrev entries_of : (List ℕ → ℕ) → List (List ℕ) → List (List ℕ × ℕ)
entries_of c strings = map (λ q. (q, c q)) strings

same-counts : (c d : List ℕ → ℕ) (p : List ℕ) (strings : List (List ℕ)) → ((q : List ℕ) → bytes_eq p q ≡ false → d q ≡ c q) →
    AllByRecursion (λ y. bytes_eq p y ≡ false) strings → entries_of d strings ≡ entries_of c strings
same-counts c d p [] h apart = refl
same-counts c d p (q ∷ strings) h apart =
    let head = h q apart.0 in
    let tail = same-counts c d p strings h apart.1 in
    λ i. (q, head i) ∷ tail i

none-apart : (p : List ℕ) (strings : List (List ℕ)) → has strings p ≡ false → AllByRecursion (λ y. bytes_eq p y ≡ false) strings
none-apart p [] h = tt
none-apart p (q ∷ strings) h = let parts = or_parts (bytes_eq p q) (has strings p) h in (parts.0, none-apart p strings parts.1)

counted-new : (c : List ℕ → ℕ) (p : List ℕ) (strings : List (List ℕ)) → AllByRecursion (λ y. bytes_eq p y ≡ false) strings → counted p (entries_of c strings) ≡ entries_of c strings ++ (p, 1) ∷ []
counted-new c p [] h = refl
counted-new c p (q ∷ strings) h = rw (h.0, counted-new c p strings h.1) refl

counted-seen : (c d : List ℕ → ℕ) (p : List ℕ) (strings : List (List ℕ)) → IsDistinct bytes_eq strings → has strings p ≡ true →
    ((q : List ℕ) → bytes_eq p q ≡ false → d q ≡ c q) → d p ≡ c p + 1 → counted p (entries_of c strings) ≡ entries_of d strings
unfolding IsDistinct
counted-seen c d p [] apart h others same = absurd (false≢true h)
counted-seen c d p (q ∷ strings) apart h others same =
    elim (cases_Bool (bytes_eq p q)) [
      | inl is ↦
          let e = same-is p q is in
          let head : d q ≡ c q + 1 = rw e at same in
          let tail = same-counts c d p strings others (subst (λ (x : List ℕ). AllByRecursion (λ y. bytes_eq x y ≡ false) strings) (sym e) apart.0) in
          rw is (λ i. (q, sym head i) ∷ sym tail i)
      | inr isnt ↦ rw (isnt, counted-seen c d p strings apart.1 (rw isnt at h) others same, others q isnt) refl
    ]

count-cons : (q : List ℕ) (pieces : List (List ℕ)) (p : List ℕ) → count_in (q ∷ pieces) p ≡ cond (bytes_eq p q) 1 0 + count_in pieces p
count-cons q pieces p = sum_by-cons (λ r. cond (bytes_eq p r) 1 0) q pieces

none-counted : (pieces : List (List ℕ)) (p : List ℕ) → has pieces p ≡ false → count_in pieces p ≡ 0
none-counted [] p h = refl
none-counted (q ∷ pieces) p h =
    let parts = or_parts (bytes_eq p q) (has pieces p) h in
    count-cons q pieces p ∙ rw (parts.0, none-counted pieces p parts.1) refl

some-counted : (pieces : List (List ℕ)) (p : List ℕ) → has pieces p ≡ true → 1 ≤ count_in pieces p
some-counted [] p h = absurd (false≢true h)
some-counted (q ∷ pieces) p h =
    elim (or_cases (bytes_eq p q) (has pieces p) h) [
      | inl here ↦ let sum : count_in (q ∷ pieces) p ≡ 1 + count_in pieces p = count-cons q pieces p ∙ rw here refl in omega (arith, sum)
      | inr there ↦ omega (arith, count-cons q pieces p, some-counted pieces p there)
    ]

-- ---- a vocabulary takes one piece more

pub vocabulary-push : (pieces : List (List ℕ)) (p : List ℕ) → vocabulary (pieces ++ p ∷ []) ≡ counted p (vocabulary pieces)
vocabulary-push pieces p =
    let before : List ℕ → ℕ = count_in pieces in
    let after : List ℕ → ℕ = count_in (pieces ++ p ∷ []) in
    let others : (q : List ℕ) → bytes_eq p q ≡ false → after q ≡ before q = λ q apart. count-push pieces p q ∙ rw (same-sym q p, apart) (add-zero (before q)) in
    let same : after p ≡ before p + 1 = count-push pieces p p ∙ rw (same-refl p) refl in
    elim (cases_Bool (has pieces p)) [
      | inl seen ↦ rw (first-seen pieces p seen) (sym (counted-seen before after p (first_appearances pieces) (distinct-first pieces) (has-first pieces p ∙ seen) others same))
      | inr new ↦
          let apart = none-apart p (first_appearances pieces) (has-first pieces p ∙ new) in
          let one : after p ≡ 1 = omega (arith, same, none-counted pieces p new) in
          ap (entries_of after) (first-new pieces p new) ∙ map-append (λ q. (q, after q)) (first_appearances pieces) (p ∷ [])
          ∙ rw (same-counts before after p (first_appearances pieces) others apart, one) (sym (counted-new before p (first_appearances pieces) apart))
    ]

-- ---- what a vocabulary says of its pieces

keys-are : (c : List ℕ → ℕ) (strings : List (List ℕ)) → map (λ (e : List ℕ × ℕ). e.0) (entries_of c strings) ≡ strings
keys-are c [] = refl
keys-are c (q ∷ strings) = ap (λ (x : List (List ℕ)). q ∷ x) (keys-are c strings)

entry-is : (c : List ℕ → ℕ) (strings : List (List ℕ)) (p : List ℕ) → entry_count (entries_of c strings) p ≡ cond (has strings p) (c p) 0
entry-is c [] p = refl
entry-is c (q ∷ strings) p =
    elim (cases_Bool (bytes_eq p q)) [
      | inl is ↦ rw is (ap c (sym (same-is p q is)))
      | inr isnt ↦ rw isnt (entry-is c strings p)
    ]

pub entry-count : (pieces : List (List ℕ)) (p : List ℕ) → entry_count (vocabulary pieces) p ≡ count_in pieces p
entry-count pieces p =
    entry-is (count_in pieces) (first_appearances pieces) p ∙ rw (has-first pieces p) (elim (cases_Bool (has pieces p)) [
      | inl is ↦ rw is refl
      | inr isnt ↦ rw isnt (sym (none-counted pieces p isnt))
    ])

pub vocabulary-has : (pieces : List (List ℕ)) (p : List ℕ) → has_piece (vocabulary pieces) p ≡ has pieces p
vocabulary-has pieces p = any-keys (count_in pieces) p (first_appearances pieces) ∙ has-first pieces p
  where
    any-keys : (c : List ℕ → ℕ) (s : List ℕ) (strings : List (List ℕ)) → has_piece (entries_of c strings) s ≡ has strings s
    any-keys c s [] = refl
    any-keys c s (q ∷ strings) = ap (λ b. bytes_eq s q || b) (any-keys c s strings)

-- the pieces are distinct, and just those that came
pub distinct-keys : (pieces : List (List ℕ)) → IsDistinct bytes_eq (map (λ (e : List ℕ × ℕ). e.0) (vocabulary pieces))
distinct-keys pieces = subst (IsDistinct bytes_eq) (sym (keys-are (count_in pieces) (first_appearances pieces))) (distinct-first pieces)

pub came-exactly : (pieces : List (List ℕ)) (p : List ℕ) → (has_piece (vocabulary pieces) p ≡ true) ↔ Contains pieces p
came-exactly pieces p = (λ h. contains-from pieces p (sym (vocabulary-has pieces p) ∙ h), λ c. vocabulary-has pieces p ∙ has-from pieces p c)

pub sorted-of_vocabulary : (pieces : List (List ℕ)) → sorted_of (vocabulary pieces) ≡ sorted_distinct pieces
sorted-of_vocabulary pieces =
    ap sorted_distinct (keys-are (count_in pieces) (first_appearances pieces)) ∙
    rising-unique (sorted_distinct (first_appearances pieces)) (sorted_distinct pieces) (sorted-rising (first_appearances pieces)) (sorted-rising pieces)
    (λ s i. has-sorted pieces s ∙ (sym (has-first pieces s) ∙ (sym (has-sorted (first_appearances pieces) s) ∙ i)))
    (λ s i. has-sorted (first_appearances pieces) s ∙ (has-first pieces s ∙ (sym (has-sorted pieces s) ∙ i)))

map-agree : (c d : List ℕ → ℕ) (strings : List (List ℕ)) → ((q : List ℕ) → c q ≡ d q) → map c strings ≡ map d strings
map-agree c d strings h = ap (λ (f : List ℕ → ℕ). map f strings) (λ i. λ q. h q i)

pub counts-of_vocabulary : (pieces : List (List ℕ)) → counts_of (vocabulary pieces) ≡ map (count_in pieces) (sorted_distinct pieces)
counts-of_vocabulary pieces = map-agree (entry_count (vocabulary pieces)) (count_in pieces) (sorted_of (vocabulary pieces)) (entry-count pieces)
    ∙ ap (map (count_in pieces)) (sorted-of_vocabulary pieces)

total-counted : (p : List ℕ) (entries : List (List ℕ × ℕ)) → total (counted p entries) ≡ total entries + 1
total-counted p [] = refl
total-counted p (e ∷ entries) =
    let was = sum_by-cons (λ (x : List ℕ × ℕ). x.1) e entries in
    elim (cases_Bool (bytes_eq p e.0)) [
      | inl is ↦ rw is (sum_by-cons (λ (x : List ℕ × ℕ). x.1) (e.0, e.1 + 1) entries ∙ omega (arith, was))
      | inr isnt ↦ rw isnt (sum_by-cons (λ (x : List ℕ × ℕ). x.1) e (counted p entries) ∙ omega (arith, was, total-counted p entries))
    ]

total-from : (done rest : List (List ℕ)) → total (vocabulary done) ≡ length done → total (vocabulary (done ++ rest)) ≡ length (done ++ rest)
total-from done [] h = rw (append-nil done) h
total-from done (p ∷ rest) h =
    let step : total (vocabulary (done ++ p ∷ [])) ≡ length (done ++ p ∷ []) = ap total (vocabulary-push done p)
    ∙ (total-counted p (vocabulary done) ∙ omega (arith, h, length-append done (p ∷ []))) in
    rw (append_assoc done (p ∷ []) rest) at (total-from (done ++ p ∷ []) rest step)

pub total-of_vocabulary : (pieces : List (List ℕ)) → total (vocabulary pieces) ≡ length pieces
total-of_vocabulary pieces = total-from [] pieces refl

positive-from : (pieces strings : List (List ℕ)) → AllByRecursion (λ q. has pieces q ≡ true) strings → AllByRecursion (λ (e : List ℕ × ℕ). 1 ≤ e.1) (entries_of (count_in pieces) strings)
positive-from pieces [] h = tt
positive-from pieces (q ∷ strings) h = (some-counted pieces q h.0, positive-from pieces strings h.1)

all-there : (pieces strings : List (List ℕ)) → ((s : List ℕ) → has strings s ≡ true → has pieces s ≡ true) → AllByRecursion (λ q. has pieces q ≡ true) strings
all-there pieces [] h = tt
all-there pieces (q ∷ strings) h = (h q (or_left (bytes_eq q q) (has strings q) (same-refl q)), all-there pieces strings (λ s i. h s (or_right (bytes_eq s q) (has strings s) i)))

-- every count is at least 1
pub counts-positive : (pieces : List (List ℕ)) → All (λ (e : List ℕ × ℕ). 1 ≤ e.1) (vocabulary pieces)
counts-positive pieces = All-from_recursion (λ (e : List ℕ × ℕ). 1 ≤ e.1) (vocabulary pieces)
    (positive-from pieces (first_appearances pieces) (all-there pieces (first_appearances pieces) (λ s i. sym (has-first pieces s) ∙ i)))

entries-long : (c : List ℕ → ℕ) (strings : List (List ℕ)) → length (entries_of c strings) ≡ length strings
entries-long c [] = refl
entries-long c (q ∷ strings) = ap suc (entries-long c strings)

pub distinct-sorted : (pieces : List (List ℕ)) → IsDistinct bytes_eq (sorted_distinct pieces)
distinct-sorted pieces = subst (λ (e : List ℕ → List ℕ → Bool). IsDistinct e (sorted_distinct pieces)) (λ i. λ a b. is_eq-slice_cmp a b i)
    (IsDistinct-from_sorted (slice_cmp nat_cmp) (sorted_distinct pieces) (sorted-rising pieces))

-- as many entries as distinct pieces
pub length-of_vocabulary : (pieces : List (List ℕ)) → length (vocabulary pieces) ≡ length (sorted_distinct pieces)
length-of_vocabulary pieces =
    entries-long (count_in pieces) (first_appearances pieces) ∙ length-from_same_keys nat_list_eq_equiv (first_appearances pieces) (sorted_distinct pieces)
    (distinct-first pieces) (distinct-sorted pieces) (λ s. has-first pieces s ∙ sym (has-sorted pieces s))

-- ---- the same of a collection's stream

pub collection-symbols : (kind : Stream) (collection : List ℕ) → (sorted_of (vocabulary (all_pieces kind collection)) ≡ sorted_pieces kind collection)
    × (counts_of (vocabulary (all_pieces kind collection)) ≡ piece_counts kind collection)
collection-symbols kind collection = (sorted-of_vocabulary (all_pieces kind collection), counts-of_vocabulary (all_pieces kind collection))
