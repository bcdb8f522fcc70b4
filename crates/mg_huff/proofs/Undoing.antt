-- The joins taken back one at a time, from the root to the leaves.
use Rattle.std.proofs.Common.{◌≡◌, ℕ, suc, ◌+◌, ◌-◌, ◌^◌, ◌<◌, ◌≤◌, Bool, true, false, List, [], ◌∷◌, ◌++◌, length, sum, refl, sym, ap, ◌∙◌, subst, arith, reverse, drop, get_or, length-append}
use Rattle.std.proofs.lemmas.List.{drop_more, reverse-append, length-reverse, length-drop, drop-append-le, get_or-reverse}
use Rattle.std.proofs.Math.Seq.{drop-length}
use Rattle.std.proofs.lemmas.List.Elements.{length_all_zip}
use Rattle.std.specs.List.{AllZip, AllByRecursion}
use Rattle.mg_defs.specs.Canon.{kraft}
use Rattle.mg_defs.specs.Cost.{sorted, merge_cost}
use Rattle.mg_huff.specs.Rising.{Above}
use Rattle.mg_huff.specs.Forest.{on_leaves, on_inner, push_leaf, push_inner, fib, IsWithin, Spread, Reached, IsWhole, Undone, AreDepths}
use Rattle.mg_huff.specs.declared.join.Join.{Join}
use Rattle.mg_huff.proofs.Fib.{depth_bound}
use Rattle.mg_huff.proofs.Unjoin.{unjoin, AllZip-pop}

-- one join taken back
module _ (whole total : ℕ) (counts : List ℕ) (join : Join) (joins : List Join) (leaves inner dl di : List ℕ) (d last cost : ℕ)
    (r : Reached counts (join ∷ joins) leaves inner last cost) (s : Spread whole total leaves inner dl (di ++ d ∷ []) last cost) (small : whole < 2 ^ 32) where
  placed : Spread whole total leaves (r.3 ++ (r.0 + last) ∷ []) dl (di ++ d ∷ []) last (r.2 + (r.0 + last))
  placed = subst (λ c. Spread whole total leaves (r.3 ++ (r.0 + last) ∷ []) dl (di ++ d ∷ []) last c) r.5
      (subst (λ i. Spread whole total leaves i dl (di ++ d ∷ []) last cost) r.4 s)

  pub undo-deep : d ≤ 45
  undo-deep =
      let p = AllZip-pop (IsWithin whole last) r.3 di (r.0 + last) d placed.inner_within in
      let one = r.6 in let two = r.7 in let three = r.8 in
      depth_bound whole last (r.0 + last) d p.1 (omega arith) (omega arith) small

  pub undo-spread : Spread whole total (on_leaves join.first r.0 (on_leaves join.second last leaves)) (on_inner join.first r.0 (on_inner join.second last r.3))
      (on_leaves join.first (suc d) (on_leaves join.second (suc d) dl)) (on_inner join.first (suc d) (on_inner join.second (suc d) di)) r.1 r.2
  undo-spread = unjoin whole total join.first join.second r.0 last r.1 r.2 leaves r.3 dl di d r.7 r.8 undo-deep placed

pub undone_start : (counts : List ℕ) (joins : List Join) → IsWhole counts joins → Undone counts joins 0 [] (0 ∷ [])
unfolding fib
undone_start counts joins w = record {
  leaves = [];
  inner = sum counts ∷ [];
  last = w.0;
  cost = merge_cost (length counts) (sorted counts);
  reached = w.1;
  spread = record { same_cost = omega arith; full = refl; leaves_within = tt; inner_within = (omega arith, tt) };
}

reverse-push_leaf : (b : Bool) (d : ℕ) (xs : List ℕ) → reverse (push_leaf b d xs) ≡ on_leaves b d (reverse xs)
reverse-push_leaf true d xs = reverse-append xs (d ∷ [])
reverse-push_leaf false d xs = refl

reverse-push_inner : (b : Bool) (d n : ℕ) (xs : List ℕ) → n ≤ length xs → reverse (drop n (push_inner b d xs)) ≡ on_inner b d (reverse (drop n xs))
reverse-push_inner true d n xs h = refl
reverse-push_inner false d n xs h = ap reverse (drop-append-le n xs (d ∷ []) h) ∙ reverse-append (drop n xs) (d ∷ [])

push_inner-longer : (b : Bool) (d n : ℕ) (xs : List ℕ) → n ≤ length xs → n ≤ length (push_inner b d xs)
push_inner-longer true d n xs h = h
push_inner-longer false d n xs h = simp length-append (omega arith)

-- the list of joins, the latest first, from the join that is next
next_join : (joins : List Join) (join : Join) (at : ℕ) → at < length joins → join ≡ get_or joins (length joins - 1 - at) join → drop at (reverse joins) ≡ join ∷ drop (at + 1) (reverse joins)
next_join joins join at h e =
    let l : at < length (reverse joins) = simp length-reverse h in
    let m = drop_more (reverse joins) at join l in
    let g = get_or-reverse joins at join h in
    let f : get_or (reverse joins) at join ≡ join = cc in
    m ∙ ap (λ j. j ∷ drop (at + 1) (reverse joins)) f

module _ (counts : List ℕ) (joins : List Join) (join : Join) (at : ℕ) (ld id : List ℕ) (u : Undone counts joins at ld id) (h : at < length joins)
    (e : join ≡ get_or joins (length joins - 1 - at) join) where
  reached_next : Reached counts (join ∷ drop (at + 1) (reverse joins)) u.leaves u.inner u.last u.cost
  reached_next = subst (λ j. Reached counts j u.leaves u.inner u.last u.cost) (next_join joins join at h e) u.reached

  pub undone_left : at < length id
  undone_left =
      let r = reached_next in
      let p = ap length r.4 in
      let q = length_all_zip (IsWithin (sum counts) u.last) u.inner (reverse (drop at id)) u.spread.inner_within in
      let a = length-append r.3 ((r.0 + u.last) ∷ []) in
      let b = length-reverse (drop at id) in
      let c = length-drop at id in
      omega arith

  spread_next : Spread (sum counts) (merge_cost (length counts) (sorted counts)) u.leaves u.inner (reverse ld) (reverse (drop (at + 1) id) ++ get_or id at 0 ∷ []) u.last u.cost
  spread_next =
      let m = ap reverse (drop_more id at 0 undone_left) ∙ reverse-append (get_or id at 0 ∷ []) (drop (at + 1) id) in
      subst (λ t. Spread (sum counts) (merge_cost (length counts) (sorted counts)) u.leaves u.inner (reverse ld) t u.last u.cost) m u.spread

  module _ (small : sum counts < 2 ^ 32) where
    pub undone_deep : get_or id at 0 ≤ 45
    undone_deep = undo-deep (sum counts) (merge_cost (length counts) (sorted counts)) counts join (drop (at + 1) (reverse joins)) u.leaves u.inner (reverse ld)
        (reverse (drop (at + 1) id)) (get_or id at 0) u.last u.cost reached_next spread_next small

    pub undone_more : (depth : ℕ) → depth ≡ suc (get_or id at 0) →
        Undone counts joins (at + 1) (push_leaf join.first depth (push_leaf join.second depth ld))
        (push_inner join.first depth (push_inner join.second depth id))
    undone_more depth f =
        let r = reached_next in
        let s = undo-spread (sum counts) (merge_cost (length counts) (sorted counts)) counts join (drop (at + 1) (reverse joins)) u.leaves u.inner (reverse ld)
        (reverse (drop (at + 1) id)) (get_or id at 0) u.last u.cost r spread_next small in
        let left = undone_left in
        let in_range : at + 1 ≤ length id = omega arith in
        let dl = reverse-push_leaf join.first depth (push_leaf join.second depth ld) ∙ ap (λ t. on_leaves join.first depth t) (reverse-push_leaf join.second depth ld) in
        let di = reverse-push_inner join.first depth (at + 1) (push_inner join.second depth id) (push_inner-longer join.second depth (at + 1) id in_range)
        ∙ ap (λ t. on_inner join.first depth t) (reverse-push_inner join.second depth (at + 1) id in_range) in
        let whole : ℕ = sum counts in
        let total : ℕ = merge_cost (length counts) (sorted counts) in
        let new_leaves : List ℕ = on_leaves join.first r.0 (on_leaves join.second u.last u.leaves) in
        let new_inner : List ℕ = on_inner join.first r.0 (on_inner join.second u.last r.3) in
        let at_depth = subst (λ k. Spread whole total new_leaves new_inner (on_leaves join.first k (on_leaves join.second k (reverse ld)))
        (on_inner join.first k (on_inner join.second k (reverse (drop (at + 1) id)))) r.1 r.2) (sym f) s in
        let at_leaves = subst (λ t. Spread whole total new_leaves new_inner t (on_inner join.first depth (on_inner join.second depth (reverse (drop (at + 1) id)))) r.1 r.2) (sym dl) at_depth in
        record {
          leaves = new_leaves;
          inner = new_inner;
          last = r.1;
          cost = r.2;
          reached = r.9;
          spread = subst (λ t. Spread whole total new_leaves new_inner (reverse (push_leaf join.first depth (push_leaf join.second depth ld))) t r.1 r.2) (sym di) at_leaves;
        }

all_within : (whole : ℕ) → whole < 2 ^ 32 → (counts depths : List ℕ) → Above 1 counts → AllZip (IsWithin whole 1) counts depths → AllByRecursion (λ d. d ≤ 45) depths
all_within whole small [] [] one all = tt
all_within whole small [] (d ∷ depths) one all = absurd all
all_within whole small (w ∷ counts) [] one all = tt
all_within whole small (w ∷ counts) (d ∷ depths) one all = (depth_bound whole 1 w d all.0 one.0 (omega arith) small, all_within whole small counts depths one.1 all.1)

no_inner : (R : ℕ → ℕ → Type 0) (ds : List ℕ) → AllZip R [] ds → ds ≡ []
no_inner R [] all = refl
no_inner R (d ∷ ds) all = absurd all

found : (whole total : ℕ) (counts inner dl di : List ℕ) (last cost : ℕ) → Spread whole total counts inner dl di last cost → inner ≡ [] → last ≡ 1 → cost ≡ 0 → Spread whole total counts [] dl di 1 0
found whole total counts inner dl di last cost s e f g =
    subst (λ i. Spread whole total counts i dl di 1 0) e (subst (λ l. Spread whole total counts inner dl di l 0) f (subst (λ c. Spread whole total counts inner dl di last c) g s))

pub undone_all : (counts : List ℕ) (joins : List Join) (at : ℕ) (ld id : List ℕ) → Undone counts joins at ld id → at ≡ length joins → Above 1 counts →
    sum counts < 2 ^ 32 → AreDepths counts (reverse ld)
undone_all counts joins at ld id u e one small =
    let whole : ℕ = sum counts in
    let total : ℕ = merge_cost (length counts) (sorted counts) in
    let m : at ≡ length (reverse joins) = simp length-reverse e in
    let none : drop at (reverse joins) ≡ [] = ap (λ n. drop n (reverse joins)) m ∙ drop-length (reverse joins) in
    let r = subst (λ j. Reached counts j u.leaves u.inner u.last u.cost) none u.reached in
    let s = found whole total counts u.inner (reverse ld) (reverse (drop at id)) u.last u.cost
    (subst (λ l. Spread whole total l u.inner (reverse ld) (reverse (drop at id)) u.last u.cost) r.0 u.spread) r.1 r.2 r.3 in
    let n = ap kraft (no_inner (IsWithin whole 1) (reverse (drop at id)) s.inner_within) in
    let k = s.full in
    let cost = s.same_cost in
    let len = length_all_zip (IsWithin whole 1) counts (reverse ld) s.leaves_within in
    record {
      same_cost = omega arith;
      full = omega arith;
      within = all_within whole small counts (reverse ld) one s.leaves_within;
      same_length = sym len;
    }
