-- The entries of a map that is sorted by its keys.
use Rattle.std.proofs.Common.{◌≡◌, ℕ, suc, ◌+◌, Bool, false, List, [], ◌∷◌, subst, arith, get_or}
use Rattle.std.specs.Cmp.{IsStrictWeakOrder}
use Rattle.std.specs.List.{IsDistinct}
use Rattle.std.specs.List.Sorted.{IsPermutation, IsSortedBy, IsStrictlySortedBy}
use Rattle.std.specs.Map.{keys_of}
use Rattle.std.specs.Ordering.{nat_cmp, is_lt}
use Rattle.std.specs.declared.cmp.Ordering.TheVariants.{Less}
use Rattle.std.specs.Cmp.Lexicographic.{slice_cmp}
use Rattle.std.specs.Str.{bytes_eq}
use Rattle.std.proofs.lemmas.Cmp.{nat_list_cmp_total}
use Rattle.std.proofs.lemmas.List.Elements.{All-from_recursion, recursion_from_All}
use Rattle.std.proofs.lemmas.List.MinMax.{ranks_by}
use Rattle.std.proofs.lemmas.List.Sorted.{All-permutation, IsPermutation-map}
use Rattle.mg_model.specs.declared.piece_key.PieceKey.{PieceKey}
use Rattle.mg_model.specs.Keys.{Longer, piece_in}
use Rattle.mg_model.specs.Vocabularies.{IsKey, IsKept, entries_of, pieces_of}
use Rattle.mg_model.proofs.Order.{order, less-from, later, still-sorted}

-- whether an entry's piece is less than that of another
abbrev pub comes_before : Longer → PieceKey × ℕ → PieceKey × ℕ → Bool
comes_before longer one other = is_lt (order (piece_in longer one.0.entry) (piece_in longer other.0.entry))

module _ (longer : Longer) where
  pub comes-weak : IsStrictWeakOrder (comes_before longer)
  comes-weak = ranks_by nat_list_cmp_total (λ (e : PieceKey × ℕ). piece_in longer e.0.entry)

  pub entries-moved : (es fs : List (PieceKey × ℕ)) → IsPermutation es fs → IsPermutation (entries_of longer es) (entries_of longer fs)
  entries-moved es fs moved = IsPermutation-map (λ (e : PieceKey × ℕ). (piece_in longer e.0.entry, e.1)) es fs moved

  pub kept-moved : (es fs : List (PieceKey × ℕ)) → IsPermutation es fs → IsKept longer es → IsKept longer fs
  kept-moved es fs moved kept =
      let keys : IsPermutation (keys_of es) (keys_of fs) = IsPermutation-map (λ (e : PieceKey × ℕ). e.0) es fs moved in
      record {
        keys = recursion_from_All (IsKey longer) (keys_of fs) (All-permutation (IsKey longer) (keys_of es) (keys_of fs) keys (All-from_recursion (IsKey longer) (keys_of es) kept.keys));
        vocabulary = still-sorted (entries_of longer es) (entries_of longer fs) (entries-moved es fs moved) kept.vocabulary;
      }

  -- entries in order whose pieces differ rise
  pub rising-entries : (es : List (PieceKey × ℕ)) → IsSortedBy (comes_before longer) es →
      IsDistinct bytes_eq (pieces_of (entries_of longer es)) → IsStrictlySortedBy (slice_cmp nat_cmp) (pieces_of (entries_of longer es))
  unfolding IsDistinct IsStrictlySortedBy
  rising-entries [] sorted apart = tt
  rising-entries (e ∷ []) sorted apart = (tt, tt)
  rising-entries (e ∷ f ∷ es) sorted apart =
      let one = piece_in longer e.0.entry in
      let other = piece_in longer f.0.entry in
      let next : order one other ≡ Less = less-from one other (sorted 0 e (omega arith) (omega arith)) apart.0.0 in
      let rest = rising-entries (f ∷ es) (λ k d low high. shifted k d (sorted (suc k) d (omega arith) (omega (arith, high)))) apart.1 in
      ((next, later one other (pieces_of (entries_of longer es)) next rest.0), rest)
    where
      all : List (PieceKey × ℕ)
      all = e ∷ f ∷ es

      shifted : (k : ℕ) (d : PieceKey × ℕ) → comes_before longer (get_or all (suc k + 1) d) (get_or all (suc k) d) ≡ false →
          comes_before longer (get_or (f ∷ es) (k + 1) d) (get_or (f ∷ es) k d) ≡ false
      shifted k d h = let n : suc k + 1 ≡ suc (k + 1) = omega arith in subst (λ m. comes_before longer (get_or all m d) (get_or (f ∷ es) k d) ≡ false) n h
