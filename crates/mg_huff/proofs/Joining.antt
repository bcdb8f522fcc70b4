-- One join: the two least roots make way for the one that they make.
use Rattle.std.proofs.Common.{◌≡◌, ℕ, suc, ◌+◌, ◌≤◌, Bool, true, false, List, [], ◌∷◌, ◌++◌, length, sum, refl, sym, ap, ◌∙◌, subst, arith, append_assoc, length-append, add-zero, zero-add, reverse, drop}
use Rattle.std.proofs.lemmas.List.{append-nil, reverse-append, drop-append-le}
use Rattle.std.proofs.lemmas.List.Sums.{sum_by-append, sum_by-cons}
use Rattle.mg_defs.specs.Cost.{in_order, sorted, merge_cost}
use Rattle.mg_huff.specs.Rising.{Above, Below, Rising}
use Rattle.mg_huff.specs.Forest.{on_leaves, on_inner, Grove, Reached, Grown, IsWhole}
use Rattle.mg_huff.specs.declared.join.Join.{Join}
use Rattle.mg_defs.proofs.CostLaws.{sorted-swap}
use Rattle.mg_huff.proofs.Order.{sorted-least, Above-append}

sorted-placed : (is_leaf : Bool) (a : ℕ) (leaves inner : List ℕ) → Above a leaves → Above a inner → sorted (on_leaves is_leaf a leaves ++ on_inner is_leaf a inner) ≡ a ∷ sorted (leaves ++ inner)
sorted-placed true a leaves inner p q = sorted-least a [] (leaves ++ inner) tt (Above-append a leaves inner p q)
sorted-placed false a leaves inner p q = sorted-least a leaves inner p q

length-placed : (is_leaf : Bool) (a : ℕ) (leaves inner : List ℕ) → length (on_leaves is_leaf a leaves) + length (on_inner is_leaf a inner) ≡ suc (length leaves + length inner)
length-placed true a leaves inner = omega arith
length-placed false a leaves inner = omega arith

sum-placed : (is_leaf : Bool) (a : ℕ) (leaves inner : List ℕ) → sum (on_leaves is_leaf a leaves) + sum (on_inner is_leaf a inner) ≡ a + (sum leaves + sum inner)
sum-placed true a leaves inner = omega (arith, sum_by-cons (λ x. x) a leaves)
sum-placed false a leaves inner = omega (arith, sum_by-cons (λ x. x) a inner)

leaves-rise : (is_leaf : Bool) (a : ℕ) (xs : List ℕ) → Rising (on_leaves is_leaf a xs) → Rising xs
leaves-rise true a xs r = r.1
leaves-rise false a xs r = r

inner-rise : (is_leaf : Bool) (a : ℕ) (xs : List ℕ) → Rising (on_inner is_leaf a xs) → Rising xs
inner-rise true a xs r = r
inner-rise false a xs r = r.1

inner-below : (is_leaf : Bool) (high a : ℕ) (xs : List ℕ) → Below high (on_inner is_leaf a xs) → Below high xs
inner-below true high a xs r = r
inner-below false high a xs r = r.1

placed-above : (is_leaf : Bool) (low a : ℕ) (leaves inner : List ℕ) → Above low (on_leaves is_leaf a leaves) → Above low (on_inner is_leaf a inner) → low ≤ a
placed-above true low a leaves inner p q = p.0
placed-above false low a leaves inner p q = q.0

Below-weaker : (high higher : ℕ) → high ≤ higher → (xs : List ℕ) → Below high xs → Below higher xs
Below-weaker high higher h [] all = tt
Below-weaker high higher h (x ∷ xs) all = (let e : x ≤ high = all.0 in omega arith, Below-weaker high higher h xs all.1)

Rising-push : (xs : List ℕ) (w : ℕ) → Rising xs → Below w xs → Rising (xs ++ w ∷ [])
Rising-push [] w r b = (tt, tt)
Rising-push (x ∷ xs) w r b = (Above-append x xs (w ∷ []) r.0 (b.0, tt), Rising-push xs w r.1 b.1)

Below-push : (high : ℕ) (xs : List ℕ) (w : ℕ) → Below high xs → w ≤ high → Below high (xs ++ w ∷ [])
Below-push high [] w all h = (h, tt)
Below-push high (x ∷ xs) w all h = (all.0, Below-push high xs w all.1 h)

merge-step : (m n a b : ℕ) (leaves inner : List ℕ) (s : List ℕ) → m ≡ suc n → s ≡ a ∷ b ∷ sorted (leaves ++ inner) → merge_cost m s ≡ a + b + merge_cost n (sorted (leaves ++ (inner ++ (a + b) ∷ [])))
merge-step m n a b leaves inner s f e =
    let p = sorted-swap (a + b) (leaves ++ inner) [] in
    let q = append-nil (leaves ++ inner) in
    let r = append_assoc leaves inner ((a + b) ∷ []) in
    let chain : in_order (a + b) (sorted (leaves ++ inner)) ≡ sorted (leaves ++ (inner ++ (a + b) ∷ [])) = cc in
    rw (f, e) (ap (λ t. a + b + merge_cost n t) chain)

module _ (whole total : ℕ) (first second : Bool) (a b last cost : ℕ) (leaves inner : List ℕ)
    (a_leaves : Above a (on_leaves second b leaves)) (a_inner : Above a (on_inner second b inner))
    (b_leaves : Above b leaves) (b_inner : Above b inner) where
  pub joined : Grove whole total (on_leaves first a (on_leaves second b leaves)) (on_inner first a (on_inner second b inner)) last cost →
      Grove whole total leaves (inner ++ (a + b) ∷ []) b (cost + (a + b))
  joined g =
      let l1 = length-placed first a (on_leaves second b leaves) (on_inner second b inner) in
      let l2 = length-placed second b leaves inner in
      let s1 = sum-placed first a (on_leaves second b leaves) (on_inner second b inner) in
      let s2 = sum-placed second b leaves inner in
      let above_a = placed-above first last a (on_leaves second b leaves) (on_inner second b inner) g.leaves_above g.inner_above in
      let above_b = placed-above second a b leaves inner a_leaves a_inner in
      let starts = g.starts in
      let twice : last + last ≤ a + b = omega arith in
      let below = Below-weaker (last + last) (a + b) twice inner (inner-below second (last + last) b inner (inner-below first (last + last) a (on_inner second b inner) g.inner_below)) in
      record {
        starts = omega arith;
        leaves_rise = leaves-rise second b leaves (leaves-rise first a (on_leaves second b leaves) g.leaves_rise);
        inner_rise = Rising-push inner (a + b) (inner-rise second b inner (inner-rise first a (on_inner second b inner) g.inner_rise)) below;
        leaves_above = b_leaves;
        inner_above = Above-append b inner ((a + b) ∷ []) b_inner (omega arith, tt);
        inner_below = Below-push (b + b) inner (a + b) (Below-weaker (a + b) (b + b) (omega arith) inner below) (omega arith);
        same_cost = (
            let len = length-append inner ((a + b) ∷ []) in
            let first_out = sorted-placed first a (on_leaves second b leaves) (on_inner second b inner) a_leaves a_inner in
            let second_out = sorted-placed second b leaves inner b_leaves b_inner in
            let step = merge-step (length (on_leaves first a (on_leaves second b leaves)) + length (on_inner first a (on_inner second b inner)))
            (length leaves + length (inner ++ (a + b) ∷ [])) a b leaves inner
            (sorted (on_leaves first a (on_leaves second b leaves) ++ on_inner first a (on_inner second b inner))) (omega arith)
            (first_out ∙ ap (λ t. a ∷ t) second_out) in
            let old = g.same_cost in
            omega arith);
        same_weight = let e = sum_by-append (λ x. x) inner ((a + b) ∷ []) in let w = g.same_weight in omega arith;
      }

  -- two weights that each were the least lead on by one join
  pub grown : (counts : List ℕ) (joins : List Join) → Grove whole total (on_leaves first a (on_leaves second b leaves))
      (on_inner first a (on_inner second b inner)) last cost →
      Reached counts joins (on_leaves first a (on_leaves second b leaves)) (on_inner first a (on_inner second b inner)) last cost →
      Reached counts (record { first = first; second = second } ∷ joins) leaves (inner ++ (a + b) ∷ []) b (cost + (a + b))
  grown counts joins g r = (
    a,
    last,
    cost,
    inner,
    refl,
    refl,
    g.starts,
    placed-above first last a (on_leaves second b leaves) (on_inner second b inner) g.leaves_above g.inner_above,
    placed-above second a b leaves inner a_leaves a_inner,
    r,
  )

module _ (total : ℕ) (counts : List ℕ) (joins : List Join) (first second : Bool) (a b : ℕ) (l0 i0 l1 i1 l2 i2 : List ℕ)
    (g : Grown total counts joins l0 i0)
    (e1 : l0 ≡ on_leaves first a l1) (f1 : i0 ≡ on_inner first a i1) (p1 : Above a l1) (q1 : Above a i1)
    (e2 : l1 ≡ on_leaves second b l2) (f2 : i1 ≡ on_inner second b i2) (p2 : Above b l2) (q2 : Above b i2) where
  l_out : l0 ≡ on_leaves first a (on_leaves second b l2)
  l_out = e1 ∙ ap (λ l. on_leaves first a l) e2

  i_out : i0 ≡ on_inner first a (on_inner second b i2)
  i_out = f1 ∙ ap (λ i. on_inner first a i) f2

  old : Grown total counts joins (on_leaves first a (on_leaves second b l2)) (on_inner first a (on_inner second b i2))
  old = subst (λ i. Grown total counts joins (on_leaves first a (on_leaves second b l2)) i) i_out (subst (λ l. Grown total counts joins l i0) l_out g)

  pub grown_more : Grown total counts (record { first = first; second = second } ∷ joins) l2 (i2 ++ (a + b) ∷ [])
  grown_more =
      let a_l : Above a (on_leaves second b l2) = subst (λ l. Above a l) e2 p1 in
      let a_i : Above a (on_inner second b i2) = subst (λ i. Above a i) f2 q1 in
      let o = old in
      (b, o.1 + (a + b), joined (sum counts) total first second a b o.0 o.1 l2 i2 a_l a_i p2 q2 o.2, grown (sum counts) total first second a b o.0 o.1 l2 i2 a_l a_i p2 q2 counts joins o.2 o.3)

  pub grown_sum : a + b ≤ sum counts
  grown_sum =
      let w = old.2.same_weight in
      let s1 = sum-placed first a (on_leaves second b l2) (on_inner second b i2) in
      let s2 = sum-placed second b l2 i2 in
      omega arith

pub grown_start : (leaves : List ℕ) → Rising leaves → Above 1 leaves → Grown (merge_cost (length leaves) (sorted leaves)) leaves [] leaves []
grown_start leaves up above =
    let e : 0 + merge_cost (length leaves + 0) (sorted (leaves ++ [])) ≡ merge_cost (length leaves) (sorted leaves) = rw (append-nil leaves, add-zero, zero-add) in (
      1,
      0,
      record {
        starts = omega arith;
        leaves_rise = up;
        inner_rise = tt;
        leaves_above = above;
        inner_above = tt;
        inner_below = tt;
        same_cost = e;
        same_weight = omega arith;
      },
      (refl, refl, refl, refl),
    )

pub grown_whole : (leaves : List ℕ) (joins : List Join) (l i : List ℕ) → Grown (merge_cost (length leaves) (sorted leaves)) leaves (reverse joins) l i →
    length l ≡ 0 → length i ≡ 1 → IsWhole leaves joins
grown_whole leaves joins (x ∷ l) i g p q = absurd (omega arith)
grown_whole leaves joins [] [] g p q = absurd (omega arith)
grown_whole leaves joins [] (w ∷ v ∷ i) g p q = absurd (omega arith)
grown_whole leaves joins [] (w ∷ []) g p q =
    let weight = g.2.same_weight in
    let e : w ≡ sum leaves = omega arith in
    let cost = g.2.same_cost in
    let f : g.1 ≡ merge_cost (length leaves) (sorted leaves) = omega arith in
    (g.0, subst (λ c. Reached leaves (reverse joins) [] (sum leaves ∷ []) g.0 c) f (subst (λ v. Reached leaves (reverse joins) [] (v ∷ []) g.0 g.1) e g.3))

pub grown_pushed : (total : ℕ) (counts : List ℕ) (joins more : List Join) (join : Join) (made made_more : List ℕ) (w n : ℕ) (leaves : List ℕ) →
    Grown total counts (join ∷ reverse joins) leaves (drop n made ++ w ∷ []) → more ≡ joins ++ join ∷ [] → made_more ≡ made ++ w ∷ [] → n ≤ length made →
    Grown total counts (reverse more) leaves (drop n made_more)
grown_pushed total counts joins more join made made_more w n leaves g e f h =
    let p : reverse more ≡ join ∷ reverse joins = ap reverse e ∙ reverse-append joins (join ∷ []) in
    let q : drop n made_more ≡ drop n made ++ w ∷ [] = ap (λ m. drop n m) f ∙ drop-append-le n made (w ∷ []) h in
    subst (λ j. Grown total counts j leaves (drop n made_more)) (sym p) (subst (λ i. Grown total counts (join ∷ reverse joins) leaves i) (sym q) g)
