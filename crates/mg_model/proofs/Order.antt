-- A vocabulary that is sorted by its pieces: the pieces are the sorted distinct ones, and each count stands at its piece.
use Rattle.std.proofs.Common.{◌≡◌, ℕ, ◌+◌, ◌≤◌, true, false, cond, List, [], ◌∷◌, map, length, refl, sym, ap, ◌∙◌, arith, sum_by, inl, inr, add-zero, zero-add}
use Rattle.std.specs.List.{AllByRecursion, IsDistinct, list_any}
use Rattle.std.specs.List.Sorted.{IsPermutation, IsStrictlySortedBy}
use Rattle.std.specs.Ordering.{nat_cmp, is_lt, is_eq, ordering_reverse}
use Rattle.std.specs.declared.cmp.Ordering.{Ordering}
use Rattle.std.specs.declared.cmp.Ordering.TheVariants.{Less, Equal, Greater}
use Rattle.std.specs.Cmp.Lexicographic.{slice_cmp}
use Rattle.std.specs.Str.{bytes_eq}
use Rattle.std.proofs.lemmas.Bool.{cases_Bool, false≢true}
use Rattle.std.proofs.lemmas.Cmp.{nat_list_cmp_total, nat_list_eq_equiv}
use Rattle.std.proofs.lemmas.List.Elements.{All-from_recursion, recursion_from_All}
use Rattle.std.proofs.lemmas.List.Sorted.{IsPermutation-map, IsPermutation-sym, length_permutation, sum_by-IsPermutation, All-permutation, list_any-IsPermutation}
use Rattle.std.proofs.lemmas.List.Sums.{sum_by-cons}
use Rattle.std.proofs.lemmas.List.{length-map}
use Rattle.std.proofs.lemmas.Map.Keys.{IsDistinct-IsPermutation}
use Rattle.std.proofs.lemmas.Map.Made.{length-from_same_keys}
use Rattle.std.proofs.lemmas.Map.Text.{is_eq-slice_cmp}
use Rattle.mg_defs.specs.Sorted.{sorted_distinct}
use Rattle.mg_defs.specs.Vocabulary.{entry_count, sorted_of, counts_of}
use Rattle.mg_defs.proofs.SortedLaws.{same-refl, sorted-rising, rising-unique, has-sorted}
use Rattle.mg_model.specs.Vocabularies.{IsVocabulary, pieces_of, entry_counts}

abbrev pub order : List ℕ → List ℕ → Ordering
order a b = slice_cmp nat_cmp a b

same-sym : (a b : List ℕ) → bytes_eq a b ≡ bytes_eq b a
same-sym a b = nat_list_eq_equiv.symm a b

-- ---- counts by piece

apart-count : (p : List ℕ) (es : List (List ℕ × ℕ)) → AllByRecursion (λ q. bytes_eq p q ≡ false) (pieces_of es) → sum_by (λ (e : List ℕ × ℕ). cond (bytes_eq p e.0) e.1 0) es ≡ 0
apart-count p [] h = refl
apart-count p (e ∷ es) h = sum_by-cons (λ (x : List ℕ × ℕ). cond (bytes_eq p x.0) x.1 0) e es ∙ rw (h.0, apart-count p es h.1) refl

-- where no two pieces are the same, the count of a piece is a sum over all entries
count-sum : (p : List ℕ) (es : List (List ℕ × ℕ)) → IsDistinct bytes_eq (pieces_of es) → entry_count es p ≡ sum_by (λ (e : List ℕ × ℕ). cond (bytes_eq p e.0) e.1 0) es
unfolding IsDistinct
count-sum p [] h = refl
count-sum p (e ∷ es) h =
    let sum = sum_by-cons (λ (x : List ℕ × ℕ). cond (bytes_eq p x.0) x.1 0) e es in
    elim (cases_Bool (bytes_eq p e.0)) [
      | inl is ↦
          let none = apart-count p es (same-apart p e.0 (pieces_of es) is h.0) in
          let here : cond (bytes_eq p e.0) e.1 0 ≡ e.1 = ap (λ b. cond b e.1 0) is in
          ap (λ b. cond b e.1 (entry_count es p)) is ∙ sym (sum ∙ ap (λ n. n + sum_by (λ (x : List ℕ × ℕ). cond (bytes_eq p x.0) x.1 0) es) here ∙ ap (λ n. e.1 + n) none ∙ add-zero e.1)
      | inr isnt ↦
          let here : cond (bytes_eq p e.0) e.1 0 ≡ 0 = ap (λ b. cond b e.1 0) isnt in
          ap (λ b. cond b e.1 (entry_count es p)) isnt ∙ count-sum p es h.1
          ∙ sym (sum ∙ ap (λ n. n + sum_by (λ (x : List ℕ × ℕ). cond (bytes_eq p x.0) x.1 0) es) here
          ∙ zero-add (sum_by (λ (x : List ℕ × ℕ). cond (bytes_eq p x.0) x.1 0) es))
    ]
  where
    same-apart : (p q : List ℕ) (ps : List (List ℕ)) → bytes_eq p q ≡ true → AllByRecursion (λ r. bytes_eq q r ≡ false) ps → AllByRecursion (λ r. bytes_eq p r ≡ false) ps
    same-apart p q [] is h = tt
    same-apart p q (r ∷ ps) is h = (nat_list_eq_equiv.congr p q r is ∙ h.0, same-apart p q ps is h.1)

counts-agree : (c d : List ℕ → ℕ) (ps : List (List ℕ)) → ((p : List ℕ) → c p ≡ d p) → map c ps ≡ map d ps
counts-agree c d ps h = ap (λ (f : List ℕ → ℕ). map f ps) (λ i. λ p. h p i)

later-counts : (e : List ℕ × ℕ) (es : List (List ℕ × ℕ)) (ps : List (List ℕ)) → AllByRecursion (λ q. bytes_eq e.0 q ≡ false) ps → map (entry_count (e ∷ es)) ps ≡ map (entry_count es) ps
later-counts e es [] h = refl
later-counts e es (p ∷ ps) h =
    let isnt : bytes_eq p e.0 ≡ false = same-sym p e.0 ∙ h.0 in
    let head : entry_count (e ∷ es) p ≡ entry_count es p = ap (λ b. cond b e.1 (entry_count es p)) isnt in
    let tail = later-counts e es ps h.1 in
    λ i. head i ∷ tail i

-- each count is that of its piece
own-counts : (es : List (List ℕ × ℕ)) → IsDistinct bytes_eq (pieces_of es) → entry_counts es ≡ map (entry_count es) (pieces_of es)
unfolding IsDistinct
own-counts [] h = refl
own-counts (e ∷ es) h =
    let head : e.1 ≡ entry_count (e ∷ es) e.0 = sym (ap (λ b. cond b e.1 (entry_count es e.0)) (same-refl e.0)) in
    let tail = own-counts es h.1 ∙ sym (later-counts e es (pieces_of es) h.0) in
    λ i. head i ∷ tail i

module _ (es fs : List (List ℕ × ℕ)) (moved : IsPermutation es fs) where
  keys-moved : IsPermutation (pieces_of es) (pieces_of fs)
  keys-moved = IsPermutation-map (λ (e : List ℕ × ℕ). e.0) es fs moved

  same-has : (s : List ℕ) → list_any (bytes_eq s) (pieces_of es) ≡ list_any (bytes_eq s) (pieces_of fs)
  same-has s = list_any-IsPermutation (bytes_eq s) (pieces_of es) (pieces_of fs) keys-moved

  pub sorted-pieces : IsStrictlySortedBy (slice_cmp nat_cmp) (pieces_of fs) → pieces_of fs ≡ sorted_of es
  sorted-pieces rising =
      rising-unique (pieces_of fs) (sorted_distinct (pieces_of es)) rising (sorted-rising (pieces_of es))
      (λ s h. has-sorted (pieces_of es) s ∙ same-has s ∙ h) (λ s h. sym (same-has s) ∙ sym (has-sorted (pieces_of es) s) ∙ h)

  pub sorted-counts : IsDistinct bytes_eq (pieces_of fs) → IsStrictlySortedBy (slice_cmp nat_cmp) (pieces_of fs) → entry_counts fs ≡ counts_of es
  sorted-counts distinct rising =
      let before : IsDistinct bytes_eq (pieces_of es) = IsDistinct-IsPermutation bytes_eq same-sym (pieces_of fs) (pieces_of es)
      (IsPermutation-sym (pieces_of es) (pieces_of fs) keys-moved) distinct in
      let agree : (p : List ℕ) → entry_count fs p ≡ entry_count es p = λ p. count-sum p fs distinct
      ∙ sum_by-IsPermutation (λ (e : List ℕ × ℕ). cond (bytes_eq p e.0) e.1 0) es fs moved ∙ sym (count-sum p es before) in
      own-counts fs distinct ∙ counts-agree (entry_count fs) (entry_count es) (pieces_of fs) agree ∙ ap (map (entry_count es)) (sorted-pieces rising)

  pub still-sorted : IsVocabulary es → IsVocabulary fs
  still-sorted is = record {
    distinct = IsDistinct-IsPermutation bytes_eq same-sym (pieces_of es) (pieces_of fs) keys-moved is.distinct;
    few = omega (arith, length_permutation es fs moved, is.few);
    total = omega (arith, sum_by-IsPermutation (λ (e : List ℕ × ℕ). e.1) es fs moved, is.total);
    counted = recursion_from_All (λ (e : List ℕ × ℕ). 1 ≤ e.1) fs (All-permutation (λ (e : List ℕ × ℕ). 1 ≤ e.1) es fs moved (All-from_recursion (λ (e : List ℕ × ℕ). 1 ≤ e.1) es is.counted));
    short = recursion_from_All (λ (e : List ℕ × ℕ). length e.0 ≤ 255) fs
        (All-permutation (λ (e : List ℕ × ℕ). length e.0 ≤ 255) es fs moved (All-from_recursion (λ (e : List ℕ × ℕ). length e.0 ≤ 255) es is.short));
  }

-- ---- pieces that are not above the next, and differ

pub less-from : (a b : List ℕ) → is_lt (order b a) ≡ false → bytes_eq a b ≡ false → order a b ≡ Less
less-from a b down apart = by (order a b) refl
  where
    by : (o : Ordering) → order a b ≡ o → o ≡ Less
    by Less e = refl
    by Equal e = absurd (false≢true (sym apart ∙ (sym (is_eq-slice_cmp a b) ∙ ap is_eq e)))
    by Greater e = absurd (false≢true (sym down ∙ ap is_lt (nat_list_cmp_total.antisymm b a ∙ ap ordering_reverse e)))

pub later : (a b : List ℕ) (ps : List (List ℕ)) → order a b ≡ Less → AllByRecursion (λ q. order b q ≡ Less) ps → AllByRecursion (λ q. order a q ≡ Less) ps
later a b [] l h = tt
later a b (q ∷ ps) l h = (nat_list_cmp_total.trans a b q l h.0, later a b ps l h.1)

pub distinct-rising : (ps : List (List ℕ)) → IsStrictlySortedBy (slice_cmp nat_cmp) ps → IsDistinct bytes_eq ps
unfolding IsDistinct IsStrictlySortedBy
distinct-rising [] h = tt
distinct-rising (p ∷ ps) h = (heads ps h.0, distinct-rising ps h.1)
  where
    heads : (qs : List (List ℕ)) → AllByRecursion (λ q. order p q ≡ Less) qs → AllByRecursion (λ q. bytes_eq p q ≡ false) qs
    heads [] g = tt
    heads (q ∷ qs) g = (sym (is_eq-slice_cmp p q) ∙ ap is_eq g.0, heads qs g.1)

-- sorting distinct pieces takes none away
pub sorted-long : (es : List (List ℕ × ℕ)) → IsDistinct bytes_eq (pieces_of es) → length (sorted_of es) ≡ length es
sorted-long es distinct =
    let sorted = sorted_distinct (pieces_of es) in
    sym (length-from_same_keys nat_list_eq_equiv (pieces_of es) sorted distinct (distinct-rising sorted (sorted-rising (pieces_of es)))
    (λ s. sym (has-sorted (pieces_of es) s))) ∙ length-map es (λ (e : List ℕ × ℕ). e.0)
