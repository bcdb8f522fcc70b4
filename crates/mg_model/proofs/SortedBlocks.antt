-- Entries that are sorted by their pieces, and then each left once.
use Rattle.std.proofs.Common.{◌≡◌, ℕ, ◌+◌, ◌<◌, Bool, true, false, cond, List, [], ◌∷◌, length, map, refl, sym, ap, ◌∙◌, arith, get_or}
use Rattle.std.specs.Cmp.{IsStrictWeakOrder}
use Rattle.std.specs.Cmp.Lexicographic.{slice_cmp}
use Rattle.std.specs.List.{AllByRecursion, dedup, dedup_from}
use Rattle.std.specs.List.Sorted.{IsPermutation, IsSorted, IsSortedBy}
use Rattle.std.specs.Ordering.{nat_cmp, is_lt}
use Rattle.std.specs.Str.{bytes_eq}
use Rattle.std.proofs.lemmas.Cmp.{nat_list_cmp_total, nat_list_eq_equiv}
use Rattle.std.proofs.lemmas.List.{get_or-map, length-map}
use Rattle.std.proofs.lemmas.List.Elements.{All-from_recursion, recursion_from_All}
use Rattle.std.proofs.lemmas.List.Filters.{All-dedup}
use Rattle.std.proofs.lemmas.List.Kept.{Contains-dedup, Contains-from_dedup, IsStrictlySortedBy-dedup}
use Rattle.std.proofs.lemmas.List.MinMax.{ranks_by}
use Rattle.std.proofs.lemmas.List.Sorted.{All-permutation, Contains-permutation, IsPermutation-map, IsPermutation-sym}
use Rattle.std.proofs.lemmas.Map.Text.{is_eq-slice_cmp}
use Rattle.mg_defs.specs.Sorted.{sorted_distinct}
use Rattle.mg_defs.proofs.SortedLaws.{all-from, contains-from, has-from, same-is, sorted-unique}
use Rattle.mg_model.specs.Blocks.{IsPieceEntry, piece_of, same_piece}

-- whether an entry's piece is less than that of another
abbrev pub lies_below : List ℕ → List ℕ → List ℕ → Bool
lies_below long one other = is_lt (slice_cmp nat_cmp (piece_of long one) (piece_of long other))

pub below-weak : (long : List ℕ) → IsStrictWeakOrder (lies_below long)
below-weak long = ranks_by nat_list_cmp_total (piece_of long)

-- the pieces of entries in order are in order
pub sorted-pieces_of : (long : List ℕ) (es : List (List ℕ)) → IsSortedBy (lies_below long) es → IsSorted (slice_cmp nat_cmp) (map (piece_of long) es)
sorted-pieces_of long es sorted k d low high =
    let within : k + 1 < length es = omega (arith, high, length-map es (piece_of long)) in
    let first : get_or (map (piece_of long) es) k d ≡ piece_of long (get_or es k d) = get_or-map (piece_of long) es k d d (omega (arith, within)) in
    let next : get_or (map (piece_of long) es) (k + 1) d ≡ piece_of long (get_or es (k + 1) d) = get_or-map (piece_of long) es (k + 1) d d within in
    ap (λ p. is_lt (slice_cmp nat_cmp p (get_or (map (piece_of long) es) k d))) next
    ∙ ap (λ p. is_lt (slice_cmp nat_cmp (piece_of long (get_or es (k + 1) d)) p)) first ∙ sorted k d low within

-- the pieces of entries that are left once are left once
once-from : (long k : List ℕ) (es : List (List ℕ)) →
    map (piece_of long) (dedup_from (same_piece long) k es) ≡ dedup_from bytes_eq (piece_of long k) (map (piece_of long) es)
once-from long k [] = refl
once-from long k (e ∷ es) = by (bytes_eq (piece_of long e) (piece_of long k)) (once-from long k es) (once-from long e es)
  where
    by : (b : Bool) → map (piece_of long) (dedup_from (same_piece long) k es) ≡ dedup_from bytes_eq (piece_of long k) (map (piece_of long) es) →
        map (piece_of long) (dedup_from (same_piece long) e es) ≡ dedup_from bytes_eq (piece_of long e) (map (piece_of long) es) →
        map (piece_of long) (cond b (dedup_from (same_piece long) k es) (k ∷ dedup_from (same_piece long) e es))
        ≡ cond b (dedup_from bytes_eq (piece_of long k) (map (piece_of long) es)) (piece_of long k ∷ dedup_from bytes_eq (piece_of long e) (map (piece_of long) es))
    by true same other = same
    by false same other = ap (λ t. piece_of long k ∷ t) other

pub once-pieces : (long : List ℕ) (es : List (List ℕ)) → map (piece_of long) (dedup (same_piece long) es) ≡ dedup bytes_eq (map (piece_of long) es)
once-pieces long [] = refl
once-pieces long (e ∷ es) = once-from long e es

-- strings in another order, sorted and each left once
pub once-sorted : (strings moved : List (List ℕ)) → IsPermutation strings moved → IsSorted (slice_cmp nat_cmp) moved → dedup bytes_eq moved ≡ sorted_distinct strings
once-sorted strings moved same sorted = sorted-unique strings (dedup bytes_eq moved) (record {
  rising = IsStrictlySortedBy-dedup nat_list_cmp_total (λ x y. sym (is_eq-slice_cmp x y)) moved sorted;
  each = all-from (dedup bytes_eq moved) strings (λ s h. has-from strings s (Contains-permutation moved strings s (IsPermutation-sym strings moved same)
      (Contains-from_dedup bytes_eq moved s (contains-from (dedup bytes_eq moved) s h))));
  all = all-from strings (dedup bytes_eq moved) (λ s h. has-from (dedup bytes_eq moved) s (Contains-dedup nat_list_eq_equiv same-is moved s
      (Contains-permutation strings moved s same (contains-from strings s h))));
})

-- the entries that are left are entries over the same bytes
pub once-entries : (size : ℕ) (long : List ℕ) (es moved : List (List ℕ)) → IsPermutation es moved → AllByRecursion (IsPieceEntry size) es →
    AllByRecursion (IsPieceEntry size) (dedup (same_piece long) moved)
once-entries size long es moved same all = recursion_from_All (IsPieceEntry size) (dedup (same_piece long) moved)
    (All-dedup (same_piece long) (IsPieceEntry size) moved (All-permutation (IsPieceEntry size) es moved same (All-from_recursion (IsPieceEntry size) es all)))

pub pieces-moved : (long : List ℕ) (es moved : List (List ℕ)) → IsPermutation es moved → IsPermutation (map (piece_of long) es) (map (piece_of long) moved)
pieces-moved long es moved same = IsPermutation-map (piece_of long) es moved same
