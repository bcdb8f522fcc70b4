-- Laws of first appearances.
use Rattle.std.proofs.Common.{◌≡◌, ℕ, ◌*◌, Bool, false, not, List, [], ◌∷◌, filter, sum_by, refl, sym, ◌∙◌, ap, inl, inr}
use Rattle.std.specs.List.{AllByRecursion, IsDistinct}
use Rattle.std.specs.Str.{bytes_eq}
use Rattle.std.proofs.lemmas.Bool.{cases_Bool}
use Rattle.mg_defs.specs.FirstAppearances.{first_appearances}
use Rattle.mg_defs.specs.Weights.{has_term, wd, wt, weight, score_of, score, score_over, scored_by, hits, hits_over}
use Rattle.mg_defs.proofs.SortedLaws.{same-is}

abbrev other_than : List ℕ → List ℕ → Bool
other_than s r = not (bytes_eq s r)

-- ---- distinct strings are their own first appearances

none_left : (s : List ℕ) (strings : List (List ℕ)) → AllByRecursion (λ y. bytes_eq s y ≡ false) strings → filter (other_than s) strings ≡ strings
none_left s [] apart = refl
none_left s (r ∷ strings) apart = rw apart.0 (ap (λ rs. r ∷ rs) (none_left s strings apart.1))

pub first-distinct : (strings : List (List ℕ)) → IsDistinct bytes_eq strings → first_appearances strings ≡ strings
unfolding IsDistinct
first-distinct [] apart = refl
first-distinct (s ∷ strings) apart = ap (λ rs. s ∷ filter (other_than s) rs) (first-distinct strings apart.1) ∙ ap (λ rs. s ∷ rs) (none_left s strings apart.0)

-- ---- a filter of strings takes their first appearances

filters_change : (p q : List ℕ → Bool) (strings : List (List ℕ)) → filter p (filter q strings) ≡ filter q (filter p strings)
filters_change p q [] = refl
filters_change p q (r ∷ strings) =
    elim (cases_Bool (p r)) [
      | inl is ↦ elim (cases_Bool (q r)) [
        | inl too ↦ rw (is, too) (rw is (ap (λ rs. r ∷ rs) (filters_change p q strings)))
        | inr not_too ↦ rw (is, not_too) (filters_change p q strings)
      ]
      | inr isnt ↦ elim (cases_Bool (q r)) [
        | inl too ↦ rw (isnt, too) (rw isnt (filters_change p q strings))
        | inr not_too ↦ rw (isnt, not_too) (filters_change p q strings)
      ]
    ]

dropped_too : (p : List ℕ → Bool) (s : List ℕ) (strings : List (List ℕ)) → p s ≡ false → filter p (filter (other_than s) strings) ≡ filter p strings
dropped_too p s [] none = refl
dropped_too p s (r ∷ strings) none =
    elim (cases_Bool (bytes_eq s r)) [
      | inl same ↦
          let isnt : p r ≡ false = ap p (sym (same-is s r same)) ∙ none in
          rw (same, isnt) (dropped_too p s strings none)
      | inr other ↦ elim (cases_Bool (p r)) [
        | inl is ↦ rw (other, is) (ap (λ rs. r ∷ rs) (dropped_too p s strings none))
        | inr isnt ↦ rw (other, isnt) (dropped_too p s strings none)
      ]
    ]

pub first-filter : (p : List ℕ → Bool) (strings : List (List ℕ)) → filter p (first_appearances strings) ≡ first_appearances (filter p strings)
first-filter p [] = refl
first-filter p (s ∷ strings) =
    elim (cases_Bool (p s)) [
      | inl is ↦ rw is (ap (λ rs. s ∷ rs) (filters_change p (other_than s) (first_appearances strings) ∙ ap (filter (other_than s)) (first-filter p strings)))
      | inr isnt ↦ rw isnt (dropped_too p s (first_appearances strings) isnt ∙ first-filter p strings)
    ]

-- ---- scores

pub score_of_distinct : (collection doc : List ℕ) (query : List (List ℕ)) → IsDistinct bytes_eq query → score collection query doc ≡ score_over collection query doc
score_of_distinct collection doc query apart = ap (λ ts. score_over collection ts doc) (first-distinct query apart)

pub hits_of_distinct : (collection : List ℕ) (query : List (List ℕ)) → IsDistinct bytes_eq query → hits collection query ≡ hits_over collection query
hits_of_distinct collection query apart = ap (λ ts. scored_by (score_over collection ts) collection query) (first-distinct query apart)

-- what else is in a query than the document's terms adds nothing
pub score_by_had : (collection doc : List ℕ) (us vs : List (List ℕ)) → filter (has_term doc) us ≡ filter (has_term doc) vs → score collection us doc ≡ score collection vs doc
score_by_had collection doc us vs same =
    ap (λ ts. score_of (sum_by (λ t. wd doc t * wt collection t) ts) (weight doc)) (first-filter (has_term doc) us ∙ ap first_appearances same ∙ sym (first-filter (has_term doc) vs))
