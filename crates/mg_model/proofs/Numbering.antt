-- Terms of words, counted and numbered one word at a time.
use Rattle.std.proofs.Common.{◌≡◌, ◌≢◌, ℕ, zero, suc, ◌+◌, ◌<◌, ◌≤◌, ◌^◌, true, not, cond, List, [], ◌∷◌, ◌++◌, length, take, map, filter, slice_get, Some, None, IfSome, Option, refl, sym, ap, subst, ◌∙◌, arith, ltb}
use Rattle.std.specs.Option.{option_map}
use Rattle.std.specs.List.{list_any}
use Rattle.std.specs.Str.{bytes_eq}
use Rattle.std.proofs.lemmas.Bool.{or_left, or_right}
use Rattle.std.proofs.lemmas.Bool.Decides.{nat_tests}
use Rattle.std.proofs.lemmas.List.{map-append, length-map}
use Rattle.std.proofs.lemmas.List.Elements.{filter-append}
use Rattle.std.proofs.lemmas.Option.{slice_get-map}
use Rattle.mg_defs.specs.Sorted.{sorted_distinct, number_of}
use Rattle.mg_defs.specs.Terms.{folded, is_empty, terms_of_words}
use Rattle.mg_defs.proofs.SortedLaws.{same-refl, has-sorted, number-found}
use Rattle.mg_defs.specs.Marks.{term_in}
use Rattle.mg_model.specs.Terms.{HasTerm, number_kept, numbers_kept, place_in, terms_and_numbers}
use Rattle.mg_model.proofs.Keys.{position-some}
use Rattle.mg_model.proofs.Lists.{take-there, take-all, there-is}

terms-push : (ws : List (List ℕ)) (w : List ℕ) → terms_of_words (ws ++ w ∷ []) ≡ terms_of_words ws ++ terms_of_words (w ∷ [])
terms-push ws w = ap (map folded) (filter-append (λ x. not (is_empty x)) ws (w ∷ [])) ∙ map-append folded (filter (λ x. not (is_empty x)) ws) (filter (λ x. not (is_empty x)) (w ∷ []))

-- one word more
pub terms-more : (ws : List (List ℕ)) (i : ℕ) (w : List ℕ) (old new : List (List ℕ)) → slice_get ws i ≡ Some w →
    old ≡ terms_of_words (take i ws) → new ≡ old ++ terms_of_words (w ∷ []) → new ≡ terms_of_words (take (i + 1) ws)
terms-more ws i w old new there e f = f ∙ ap (λ t. t ++ terms_of_words (w ∷ [])) e ∙ sym (terms-push (take i ws) w) ∙ ap terms_of_words (sym (take-there ws i w there))

-- there are no more terms than words
pub few-terms : (ws : List (List ℕ)) (i : ℕ) → length (terms_of_words (take i ws)) ≤ i
few-terms [] zero = omega arith
few-terms [] (suc i) = omega arith
few-terms (w ∷ ws) zero = omega arith
few-terms ([] ∷ ws) (suc i) = omega (arith, few-terms ws i)
few-terms ((b ∷ bytes) ∷ ws) (suc i) = omega (arith, few-terms ws i)

pub terms-all : (ws : List (List ℕ)) (n : ℕ) (old new : List (List ℕ)) → old ≡ terms_of_words (take n ws) → length ws ≤ n →
    new ≡ sorted_distinct old → new ≡ sorted_distinct (terms_of_words ws)
terms-all ws n old new e all s = s ∙ ap (λ t. sorted_distinct t) (e ∙ ap terms_of_words (take-all ws n all))

-- ---- numbers

has-term : (ws : List (List ℕ)) (i b : ℕ) (bytes : List ℕ) → slice_get ws i ≡ Some (b ∷ bytes) → list_any (bytes_eq (folded (b ∷ bytes))) (terms_of_words ws) ≡ true
has-term [] i b bytes h = absurd cc
has-term (w ∷ ws) zero b bytes h =
    let same : w ≡ b ∷ bytes = cc in
    subst (λ v. list_any (bytes_eq (folded (b ∷ bytes))) (terms_of_words (v ∷ ws)) ≡ true) (sym same)
    (or_left (bytes_eq (folded (b ∷ bytes)) (folded (b ∷ bytes))) (list_any (bytes_eq (folded (b ∷ bytes))) (terms_of_words ws))
    (same-refl (folded (b ∷ bytes))))
has-term ([] ∷ ws) (suc i) b bytes h = has-term ws i b bytes h
has-term ((x ∷ xs) ∷ ws) (suc i) b bytes h = or_right (bytes_eq (folded (b ∷ bytes)) (folded (x ∷ xs))) (list_any (bytes_eq (folded (b ∷ bytes))) (terms_of_words ws)) (has-term ws i b bytes h)

under : (m n : ℕ) → m < n → ltb m n ≡ true
under m n h = grind (arith, nat_tests)

-- a word's term is among the terms
place-is : (ws : List (List ℕ)) (i : ℕ) (w : List ℕ) → slice_get ws i ≡ Some w → place_in (sorted_distinct (terms_of_words ws)) w ≡ term_in (sorted_distinct (terms_of_words ws)) w
place-is ws i [] there = refl
place-is ws i (b ∷ bytes) there =
    let sorted = sorted_distinct (terms_of_words ws) in
    let found = (number-found sorted (folded (b ∷ bytes)) (has-sorted (terms_of_words ws) (folded (b ∷ bytes)) ∙ has-term ws i b bytes there)).0 in
    ap (λ t. cond t (Some (number_of sorted (folded (b ∷ bytes)))) None) (under (number_of sorted (folded (b ∷ bytes))) (length sorted) found)

pub numbers-more : (ws terms : List (List ℕ)) (i : ℕ) (w : List ℕ) (number : Option ℕ) (kept : ℕ) (old new : List ℕ) →
    terms ≡ sorted_distinct (terms_of_words ws) → slice_get ws i ≡ Some w → number ≡ place_in terms w → number_kept kept ≡ number →
    numbers_kept old ≡ take i (map (term_in (sorted_distinct (terms_of_words ws))) ws) → new ≡ old ++ kept ∷ [] →
    numbers_kept new ≡ take (i + 1) (map (term_in (sorted_distinct (terms_of_words ws))) ws)
numbers-more ws terms i w number kept old new s there n k e f =
    let term = term_in (sorted_distinct (terms_of_words ws)) in
    let is : number_kept kept ≡ term_in (sorted_distinct (terms_of_words ws)) w = k ∙ n ∙ ap (λ t. place_in t w) s ∙ place-is ws i w there in
    let at = slice_get-map term ws i ∙ ap (option_map term) there in
    ap numbers_kept f ∙ map-append number_kept old (kept ∷ []) ∙ ap (λ t. t ++ number_kept kept ∷ []) e ∙ ap (λ x. take i (map term ws) ++ x ∷ []) is
    ∙ sym (take-there (map term ws) i (term w) at)

pub numbers-all : (ws : List (List ℕ)) (n : ℕ) (kept : List ℕ) → numbers_kept kept ≡ take n (map (term_in (sorted_distinct (terms_of_words ws))) ws) →
    length ws ≤ n → numbers_kept kept ≡ map (term_in (sorted_distinct (terms_of_words ws))) ws
numbers-all ws n kept e all = e ∙ take-all (map (term_in (sorted_distinct (terms_of_words ws))) ws) n (omega (arith, length-map ws (term_in (sorted_distinct (terms_of_words ws))), all))

-- the number of a word's term is below the count of terms
pub place-few : (terms : List (List ℕ)) (w : List ℕ) (number : Option ℕ) → number ≡ place_in terms w → length terms ≤ 2 ^ 22 → IfSome number (λ n. n < 2 ^ 22)
place-few terms w number is few = by w number is
  where
    by : (v : List ℕ) (n : Option ℕ) → n ≡ place_in terms v → IfSome n (λ m. m < 2 ^ 22)
    by v None e = tt
    by [] (Some m) e = absurd cc
    by (b ∷ bytes) (Some m) e = let at = position-some (bytes_eq (folded (b ∷ bytes))) terms m (sym e) in omega (arith, at.0, at.1, few)

pub number-at : (kept : List ℕ) (i n : ℕ) (number : Option ℕ) → slice_get kept i ≡ Some n → number ≡ number_kept n → slice_get (numbers_kept kept) i ≡ Some number
number-at kept i n number there is = slice_get-map number_kept kept i ∙ ap (option_map number_kept) there ∙ ap Some (sym is)

-- ---- the term of a word

pub has-number : (ws : List (List ℕ)) (i : ℕ) (w : List ℕ) → slice_get ws i ≡ Some w → w ≢ [] → HasTerm (sorted_distinct (terms_of_words ws)) w
has-number ws i [] there some = absurd (some refl)
has-number ws i (b ∷ bytes) there some =
    let sorted = sorted_distinct (terms_of_words ws) in
    let term = folded (b ∷ bytes) in
    let found = number-found sorted term (has-sorted (terms_of_words ws) term ∙ has-term ws i b bytes there) in
    record {
      number = number_of sorted term;
      number_is = refl;
      within = found.0;
      term_is = there-is sorted (number_of sorted term) term found.0 (sym found.1);
    }

pub number-of_symbol : (ws : List (List ℕ)) (i : ℕ) (w : List ℕ) → slice_get ws i ≡ Some w → slice_get (terms_and_numbers ws).numbers i ≡ Some (term_in (terms_and_numbers ws).terms w)
number-of_symbol ws i w there = let term = term_in (sorted_distinct (terms_of_words ws)) in slice_get-map term ws i ∙ ap (option_map term) there
