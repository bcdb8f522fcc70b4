-- The counts listed with their places.
use Rattle.std.proofs.Common.{◌≡◌, ℕ, suc, ◌+◌, ◌<◌, ◌≤◌, cond, List, [], ◌∷◌, ◌++◌, length, refl, sym, ap, ◌∙◌, subst, arith, get_or, take}
use Rattle.std.proofs.lemmas.Bool.Decides.{nat_tests}
use Rattle.std.proofs.lemmas.List.{map-append, take_more}
use Rattle.std.proofs.Math.Seq.{take-length}
use Rattle.std.proofs.lemmas.List.Elements.{All-push, All-nil}
use Rattle.std.proofs.lemmas.List.Sums.{sum_by-append}
use Rattle.std.proofs.lemmas.List.Sorted.{IsPermutation-map, sum_by-IsPermutation, All-permutation}
use Rattle.std.specs.Bool.{◌==◌}
use Rattle.std.specs.List.Sorted.{IsPermutation, IsNonDecreasingBy}
use Rattle.mg_huff.specs.Rising.{Above, Rising}
use Rattle.mg_huff.specs.Ranking.{counts_of, times_at, IsPlace, IsListed, IsListing}
use Rattle.mg_huff.specs.declared.counted.Counted.{Counted}

pub listing_start : (counts : List ℕ) → IsListing counts [] 0
listing_start counts = record { so_far = refl; in_place = All-nil (IsPlace counts); none = λ k h. refl; once = λ k. omega arith }

times-push : (k : ℕ) (order : List Counted) (p : Counted) → times_at k (order ++ p ∷ []) ≡ times_at k order + cond (p.place == k) 1 0
times-push k order p = omega (arith, sum_by-append (λ (q : Counted). cond (q.place == k) 1 0) order (p ∷ []))

none_more : (k : ℕ) (order : List Counted) (p : Counted) → times_at k order ≡ 0 → p.place < k → times_at k (order ++ p ∷ []) ≡ 0
none_more k order p e h = let t = times-push k order p in grind (arith, nat_tests)

once_more : (k : ℕ) (order : List Counted) (p : Counted) (at : ℕ) → times_at k order ≤ 1 → (at ≤ k → times_at k order ≡ 0) → p.place ≡ at → times_at k (order ++ p ∷ []) ≤ 1
once_more k order p at h none e = let t = times-push k order p in grind (arith, nat_tests)

pub listing_more : (counts : List ℕ) (order : List Counted) (at : ℕ) (p : Counted) → IsListing counts order at → at < length counts → p.place ≡ at →
    p.count ≡ get_or counts at 0 → IsListing counts (order ++ p ∷ []) (at + 1)
listing_more counts order at p l h e f =
    let pushed = λ (k : ℕ). sum_by-append (λ (q : Counted). cond (q.place == k) 1 0) order (p ∷ []) in
    record {
      so_far = map-append (λ (q : Counted). q.count) order (p ∷ []) ∙ ap (λ t. t ++ p.count ∷ []) l.so_far ∙ ap (λ c. take at counts ++ c ∷ []) f ∙ sym (take_more counts at 0 h);
      in_place = All-push (IsPlace counts) order p l.in_place (omega arith, subst (λ k. get_or counts k 0 ≡ p.count) (sym e) (sym f));
      none = λ k g. none_more k order p (l.none k (omega arith)) (omega arith);
      once = λ k. once_more k order p at (l.once k) (l.none k) e;
    }

pub listed : (counts : List ℕ) (order sorted_order : List Counted) → IsListing counts order (length counts) → IsPermutation order sorted_order → IsListed counts sorted_order
listed counts order sorted_order l perm =
    let all : counts_of order ≡ counts = l.so_far ∙ take-length counts in
    record {
      same = subst (λ t. IsPermutation t (counts_of sorted_order)) all (IsPermutation-map (λ (q : Counted). q.count) order sorted_order perm);
      in_place = All-permutation (IsPlace counts) order sorted_order perm l.in_place;
      once = λ k. subst (λ n. n ≤ 1) (sym (sum_by-IsPermutation (λ (q : Counted). cond (q.place == k) 1 0) order sorted_order perm)) (l.once k);
    }

above_counts : (low : ℕ) (order : List Counted) → ((i : ℕ) (d : Counted) → i < length order → low ≤ (get_or order i d).count) → Above low (counts_of order)
above_counts low [] h = tt
above_counts low (p ∷ order) h = (h 0 p (omega arith), above_counts low order (λ i d k. h (suc i) d (omega arith)))

pub rising_counts : (order : List Counted) → IsNonDecreasingBy (λ (p : Counted). p.count) order → Rising (counts_of order)
rising_counts [] up = tt
rising_counts (p ∷ order) up =
    (above_counts p.count order (λ i d h. up 0 (suc i) d (omega arith) (omega arith)), rising_counts order (λ i j d h k. up (suc i) (suc j) d (omega arith) (omega arith)))
