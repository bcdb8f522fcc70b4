-- The rows that are kept of a ranked answer are its first.
use Rattle.std.proofs.Common.{arith, ◌≡◌, ◌≤◌, ℕ, List, [], ◌∷◌, ◌++◌, length, take, sym, ap, ◌∙◌, ◌⊎◌, inl, inr, append-nil}
use Rattle.std.specs.List.{AllByRecursion}
use Rattle.std.specs.List.Sorted.{IsPermutation}
use Rattle.std.proofs.lemmas.List.{take-append-le, take_all}
use Rattle.mg_defs.specs.Weights.{Hit, hits, by_score}
use Rattle.mg_defs.specs.Order.{RanksBefore, AreSorted}
use Rattle.mg_laws.proofs.LedLists.{all-append}

-- each of the one list before each of the other
abbrev pub AllBefore : List Hit → List Hit → Type 0
AllBefore [] gone = Unit {0}
AllBefore (h ∷ kept) gone = AllByRecursion (RanksBefore h) gone × AllBefore kept gone

sorted_both : (kept gone : List Hit) → AreSorted kept → AreSorted gone → AllBefore kept gone → AreSorted (kept ++ gone)
sorted_both [] gone a b c = b
sorted_both (h ∷ kept) gone a b c = (all-append (RanksBefore h) kept gone a.0 c.0, sorted_both kept gone a.1 b c.1)

-- what one_ranking of mg_defs says
abbrev pub OneOrder : Type 0
OneOrder = (collection : List ℕ) (query : List (List ℕ)) (order : List Hit) → AreSorted order → IsPermutation (hits collection query) order → order ≡ by_score (hits collection query)

-- where the kept rows are sorted, each of them is before each that is gone, and either none is gone or as many are kept as are asked for, they are the first of the answer
pub kept_are_first : (collection : List ℕ) (query : List (List ℕ)) (kept gone : List Hit) (most : ℕ) → OneOrder → AreSorted kept → AreSorted gone →
    AllBefore kept gone → IsPermutation (hits collection query) (kept ++ gone) → (length kept ≡ most) ⊎ ((gone ≡ []) × (length kept ≤ most)) →
    kept ≡ take most (by_score (hits collection query))
kept_are_first collection query kept gone most law a b c same full =
    let whole : kept ++ gone ≡ by_score (hits collection query) = law collection query (kept ++ gone) (sorted_both kept gone a b c) same in
    let first : take most (kept ++ gone) ≡ kept = first_part full in
    sym first ∙ ap (take most) whole
  where
    first_part : (length kept ≡ most) ⊎ ((gone ≡ []) × (length kept ≤ most)) → take most (kept ++ gone) ≡ kept
    first_part h =
        elim h [
          | inl e ↦ take-append-le most kept gone (omega (arith, e)) ∙ take_all most kept (omega (arith, e))
          | inr none ↦ ap (λ l. take most (kept ++ l)) none.0 ∙ ap (take most) (append-nil kept) ∙ take_all most kept none.1
        ]
