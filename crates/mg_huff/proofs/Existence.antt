-- Each list of counts has the lengths of a Huffman code, found by the same steps as in the program, with no memory that may lack.
use Rattle.std.proofs.Common.{◌≡◌, ℕ, zero, suc, ◌+◌, ◌-◌, ◌^◌, ◌<◌, ◌≤◌, Bool, true, false, List, [], ◌∷◌, ◌++◌}
use Rattle.std.proofs.Common.{length, sum, refl, sym, ◌∙◌, subst, arith, reverse, get_or, ⊎_elim, length-append}
use Rattle.std.proofs.lemmas.Bool.{cases_lt}
use Rattle.std.proofs.lemmas.List.{get_or_default, length-map, reverse-reverse}
use Rattle.std.proofs.lemmas.List.Elements.{All-from_recursion, recursion_from_All}
use Rattle.std.proofs.lemmas.List.Sorted.{All-permutation, IsPermutation-cons, IsPermutation-map, IsPermutation-refl, IsPermutation-swap, IsPermutation-trans}
use Rattle.std.specs.List.{All}
use Rattle.std.specs.List.Sorted.{IsPermutation}
use Rattle.mg_defs.specs.CodedText.{IsHuffman}
use Rattle.mg_defs.specs.Cost.{sorted, merge_cost}
use Rattle.mg_huff.specs.Forest.{on_leaves, on_inner, push_leaf, push_inner, AreDepths, Grown, IsWhole, Undone}
use Rattle.mg_huff.specs.Ranking.{counts_of, IsListed, IsListing, Placed}
use Rattle.mg_huff.specs.Rising.{Above, Rising}
use Rattle.mg_huff.specs.declared.counted.Counted.{Counted}
use Rattle.mg_huff.specs.declared.join.Join.{Join}
use Rattle.mg_huff.proofs.Joining.{grown_more, grown_start, grown_whole}
use Rattle.mg_huff.proofs.Listing.{listed, listing_more, listing_start}
use Rattle.mg_huff.proofs.Order.{Above-lower}
use Rattle.mg_huff.proofs.Places.{placed_all, placed_more, placed_start}
use Rattle.mg_huff.proofs.Undoing.{undone_all, undone_more, undone_start}
use Rattle.mg_huff.proofs.Whole.{listed_above, listed_length, listed_sum, whole_cost, whole_good}

-- ---- the tree

-- The least of two rising lists stands first in one of them.
record Least (leaves inner : List ℕ) : Type 0 where
  is_leaf : Bool
  weight : ℕ
  leaves_left : List ℕ
  inner_left : List ℕ
  leaves_are : leaves ≡ on_leaves is_leaf weight leaves_left
  inner_are : inner ≡ on_inner is_leaf weight inner_left
  leaves_above : Above weight leaves_left
  inner_above : Above weight inner_left
  leaves_rise : Rising leaves_left
  inner_rise : Rising inner_left
  one_less : length leaves + length inner ≡ suc (length leaves_left + length inner_left)

leaf_first : (x : ℕ) (xs inner : List ℕ) → Rising (x ∷ xs) → Rising inner → Above x inner → Least (x ∷ xs) inner
leaf_first x xs inner up higher above = record {
  is_leaf = true;
  weight = x;
  leaves_left = xs;
  inner_left = inner;
  leaves_are = refl;
  inner_are = refl;
  leaves_above = up.0;
  inner_above = above;
  leaves_rise = up.1;
  inner_rise = higher;
  one_less = omega arith;
}

inner_first : (y : ℕ) (leaves ys : List ℕ) → Rising leaves → Rising (y ∷ ys) → Above y leaves → Least leaves (y ∷ ys)
inner_first y leaves ys up higher above = record {
  is_leaf = false;
  weight = y;
  leaves_left = leaves;
  inner_left = ys;
  leaves_are = refl;
  inner_are = refl;
  leaves_above = above;
  inner_above = higher.0;
  leaves_rise = up;
  inner_rise = higher.1;
  one_less = omega arith;
}

least : (leaves inner : List ℕ) → Rising leaves → Rising inner → 1 ≤ length leaves + length inner → Least leaves inner
least [] [] up higher some = absurd (omega arith)
least (x ∷ xs) [] up higher some = leaf_first x xs [] up tt tt
least [] (y ∷ ys) up higher some = inner_first y [] ys tt higher tt
least (x ∷ xs) (y ∷ ys) up higher some = ⊎_elim
    (λ more. inner_first y (x ∷ xs) ys up higher (omega arith, Above-lower y x (omega arith) xs up.0))
    (λ less. leaf_first x xs (y ∷ ys) up higher (less, Above-lower x y less ys higher.0))
    (cases_lt y x)

-- One join more: it leaves these roots, and the weight that it made.
record Step (total : ℕ) (counts : List ℕ) (joins : List Join) (many : ℕ) : Type 0 where
  join : Join
  weight : ℕ
  leaves : List ℕ
  inner : List ℕ
  grown : Grown total counts (join ∷ joins) leaves (inner ++ weight ∷ [])
  left : many ≡ suc (suc (length leaves + length inner))

step : (total : ℕ) (counts : List ℕ) (joins : List Join) (leaves inner : List ℕ) → Grown total counts joins leaves inner →
    2 ≤ length leaves + length inner → Step total counts joins (length leaves + length inner)
step total counts joins leaves inner g many =
    let one = least leaves inner g.2.leaves_rise g.2.inner_rise (omega arith) in
    let first_out = one.one_less in
    let two = least one.leaves_left one.inner_left one.leaves_rise one.inner_rise (omega arith) in
    let second_out = two.one_less in
    record {
      join = record { first = one.is_leaf; second = two.is_leaf };
      weight = one.weight + two.weight;
      leaves = two.leaves_left;
      inner = two.inner_left;
      grown = grown_more total counts joins one.is_leaf two.is_leaf one.weight two.weight leaves inner one.leaves_left one.inner_left two.leaves_left
          two.inner_left g one.leaves_are one.inner_are one.leaves_above one.inner_above two.leaves_are two.inner_are two.leaves_above two.inner_above;
      left = omega arith;
    }

-- The joins that lead to one root, the latest first.
record Joined (total : ℕ) (counts : List ℕ) : Type 0 where
  joins : List Join
  weight : ℕ
  grown : Grown total counts joins [] (weight ∷ [])

one_root : (total : ℕ) (counts : List ℕ) (joins : List Join) (weight : ℕ) (leaves inner : List ℕ) →
    Grown total counts joins leaves (inner ++ weight ∷ []) → length leaves + length inner ≡ 0 → Joined total counts
one_root total counts joins weight [] [] g e = record { joins = joins; weight = weight; grown = g }
one_root total counts joins weight (x ∷ leaves) inner g e = absurd (omega arith)
one_root total counts joins weight [] (y ∷ inner) g e = absurd (omega arith)

joined_all : (n total : ℕ) (counts : List ℕ) (joins : List Join) (leaves inner : List ℕ) → Grown total counts joins leaves inner →
    length leaves + length inner ≡ suc (suc n) → Joined total counts
joined_all zero total counts joins leaves inner g e =
    let s = step total counts joins leaves inner g (omega arith) in
    let left = s.left in
    one_root total counts (s.join ∷ joins) s.weight s.leaves s.inner s.grown (omega arith)
joined_all (suc n) total counts joins leaves inner g e =
    let s = step total counts joins leaves inner g (omega arith) in
    let left = s.left in
    let more = length-append s.inner (s.weight ∷ []) in
    joined_all n total counts (s.join ∷ joins) s.leaves (s.inner ++ s.weight ∷ []) s.grown (omega arith)

tree : (leaves : List ℕ) → Rising leaves → Above 1 leaves → 2 ≤ length leaves → (joins : List Join) × IsWhole leaves joins
tree leaves up above many =
    let total : ℕ = merge_cost (length leaves) (sorted leaves) in
    let all = joined_all (length leaves - 2) total leaves [] leaves [] (grown_start leaves up above) (omega arith) in (
      reverse all.joins,
      grown_whole leaves (reverse all.joins) [] (all.weight ∷ [])
          (subst (λ j. Grown total leaves j [] (all.weight ∷ [])) (sym (reverse-reverse all.joins)) all.grown) refl refl,
    )

-- ---- the depths of its leaves

undone_from : (n : ℕ) (counts : List ℕ) (joins : List Join) (at : ℕ) (leaf_depths inner_depths : List ℕ) →
    Undone counts joins at leaf_depths inner_depths → n + at ≡ length joins → sum counts < 2 ^ 32 →
    (leaf_found : List ℕ) × (inner_found : List ℕ) × Undone counts joins (length joins) leaf_found inner_found
undone_from zero counts joins at leaf_depths inner_depths u e small =
    let all : at ≡ length joins = omega arith in
    (leaf_depths, inner_depths, subst (λ n. Undone counts joins n leaf_depths inner_depths) all u)
undone_from (suc n) counts joins at leaf_depths inner_depths u e small =
    let some : Join = record { first = true; second = true } in
    let join : Join = get_or joins (length joins - 1 - at) some in
    let depth : ℕ = suc (get_or inner_depths at 0) in
    let more = undone_more counts joins join at leaf_depths inner_depths u (omega arith)
    (get_or_default joins (length joins - 1 - at) some join (omega arith)) small depth refl in
    undone_from n counts joins (at + 1) (push_leaf join.first depth (push_leaf join.second depth leaf_depths))
    (push_inner join.first depth (push_inner join.second depth inner_depths)) more (omega arith) small

depths : (leaves : List ℕ) → Rising leaves → Above 1 leaves → 2 ≤ length leaves → sum leaves < 2 ^ 32 →
    (found : List ℕ) × AreDepths leaves found
depths leaves up above many small =
    let it = tree leaves up above many in
    let u = undone_from (length it.0) leaves it.0 0 [] (0 ∷ []) (undone_start leaves it.0 it.1) (omega arith) small in
    (reverse u.0, undone_all leaves it.0 (length it.0) u.0 u.1 u.2 refl above small)

-- ---- the order of the counts

-- One count more, put where the counts still rise.
record Put (counted : Counted) (order : List Counted) : Type 0 where
  order_now : List Counted
  same : IsPermutation (counted ∷ order) order_now
  rising : Rising (counts_of order_now)

still_above : (low : ℕ) (counted : Counted) (order order_now : List Counted) → IsPermutation (counted ∷ order) order_now →
    low ≤ counted.count → Above low (counts_of order) → Above low (counts_of order_now)
still_above low counted order order_now same h above =
    recursion_from_All (λ x. low ≤ x) (counts_of order_now) (All-permutation (λ x. low ≤ x) (counts_of (counted ∷ order)) (counts_of order_now)
    (IsPermutation-map (λ (p : Counted). p.count) (counted ∷ order) order_now same)
    (All-from_recursion (λ x. low ≤ x) (counts_of (counted ∷ order)) (h, above)))

put : (counted : Counted) (order : List Counted) → Rising (counts_of order) → Put counted order
put counted [] up = record { order_now = counted ∷ []; same = IsPermutation-refl (counted ∷ []); rising = (tt, tt) }
put counted (p ∷ order) up = ⊎_elim
    (λ behind.
    let rest = put counted order up.1 in
    record {
      order_now = p ∷ rest.order_now;
      same = IsPermutation-trans (counted ∷ p ∷ order) (p ∷ counted ∷ order) (p ∷ rest.order_now)
          (IsPermutation-swap (counted ∷ p ∷ order) (p ∷ counted ∷ order) 0 1 (omega arith) (omega arith) refl)
          (IsPermutation-cons p (counted ∷ order) rest.order_now rest.same);
      rising = (still_above p.count counted order rest.order_now rest.same (omega arith) up.0, rest.rising);
    })
    (λ before. record {
      order_now = counted ∷ p ∷ order;
      same = IsPermutation-refl (counted ∷ p ∷ order);
      rising = ((before, Above-lower counted.count p.count before (counts_of order) up.0), up);
    })
    (cases_lt p.count counted.count)

-- All of them in rising order.
record Ranked (order : List Counted) : Type 0 where
  order_now : List Counted
  same : IsPermutation order order_now
  rising : Rising (counts_of order_now)

ranked : (order : List Counted) → Ranked order
ranked [] = record { order_now = []; same = IsPermutation-refl []; rising = tt }
ranked (p ∷ order) =
    let rest = ranked order in
    let all = put p rest.order_now rest.rising in
    record {
      order_now = all.order_now;
      same = IsPermutation-trans (p ∷ order) (p ∷ rest.order_now) all.order_now (IsPermutation-cons p order rest.order_now rest.same) all.same;
      rising = all.rising;
    }

listing_from : (n : ℕ) (counts : List ℕ) (order : List Counted) (at : ℕ) → IsListing counts order at → n + at ≡ length counts →
    (all : List Counted) × IsListing counts all (length counts)
listing_from zero counts order at l e = let all : at ≡ length counts = omega arith in (order, subst (λ n. IsListing counts order n) all l)
listing_from (suc n) counts order at l e =
    let p : Counted = record { count = get_or counts at 0; place = at } in
    listing_from n counts (order ++ p ∷ []) (at + 1) (listing_more counts order at p l (omega arith) refl refl) (omega arith)

listed_order : (counts : List ℕ) → (order : List Counted) × IsListed counts order × Rising (counts_of order)
listed_order counts =
    let l = listing_from (length counts) counts [] 0 (listing_start counts) (omega arith) in
    let r = ranked l.0 in
    (r.order_now, listed counts l.0 r.order_now l.1 r.same, r.rising)

-- ---- the lengths in the places of their counts

placed_from : (n : ℕ) (counts : List ℕ) (order : List Counted) (found out : List ℕ) (at : ℕ) → Placed counts order found at out →
    IsListed counts order → n + at ≡ length order → length found ≡ length order → All (λ d. d ≤ 45) found →
    (all : List ℕ) × Placed counts order found (length order) all
placed_from zero counts order found out at u l e f within =
    let all : at ≡ length order = omega arith in
    (out, subst (λ n. Placed counts order found n out) all u)
placed_from (suc n) counts order found out at u l e f within =
    let some : Counted = record { count = 0; place = 0 } in
    let p : Counted = get_or order at some in
    let more = placed_more counts order found out at p u l (omega arith) (omega arith) (get_or_default order at some p (omega arith))
    (within at 0 (omega arith)) in
    placed_from n counts order found _ (at + 1) more l (omega arith) f within

many_counts : (counts : List ℕ) → 2 ≤ length counts → All (λ c. 1 ≤ c) counts → sum counts < 2 ^ 32 → (lengths : List ℕ) × IsHuffman counts lengths
many_counts counts many counted total =
    let o = listed_order counts in
    let n = listed_length counts o.0 o.1 in
    let m = length-map o.0 (λ (q : Counted). q.count) in
    let s = listed_sum counts o.0 o.1 in
    let d = depths (counts_of o.0) o.2 (listed_above counts o.0 o.1 counted) (omega arith) (omega arith) in
    let within = All-from_recursion (λ d. d ≤ 45) d.0 d.1.within in
    let k = d.1.same_length in
    let u = placed_from (length o.0) counts o.0 d.0 _ 0 (placed_start counts o.0 d.0) o.1 (omega arith) (omega arith) within in
    let p = placed_all counts o.0 d.0 u.0 (length o.0) u.1 (omega arith) n (k ∙ n) in (
      u.0,
      record {
        each = p.same_length;
        good = whole_good counts o.0 d.0 u.0 o.1 d.1 p many;
        cost = whole_cost counts o.0 d.0 u.0 o.1 d.1 p many;
      },
    )

-- The counts of any pieces have the lengths of a code of Huffman's cost.
pub code_of_counts : (counts : List ℕ) → All (λ c. 1 ≤ c) counts → sum counts < 2 ^ 32 → (lengths : List ℕ) × IsHuffman counts lengths
code_of_counts [] counted total = ([], record { each = refl; good = tt; cost = refl })
code_of_counts (count ∷ []) counted total = (1 ∷ [], record { each = refl; good = refl; cost = omega arith })
code_of_counts (a ∷ b ∷ counts) counted total = many_counts (a ∷ b ∷ counts) (omega arith) counted total
