-- Lengths put in the places of their counts.
use Rattle.std.proofs.Common.{◌≡◌, ℕ, zero, suc, ◌+◌, ◌-◌, ◌*◌, ◌^◌, ◌<◌, ◌≤◌, cond, List, [], ◌∷◌, length, refl, sym, ap, ◌∙◌, subst, arith, get_or, set, drop, replicate, ⊎_elim}
use Rattle.std.proofs.lemmas.Bool.Decides.{nat_tests}
use Rattle.std.proofs.lemmas.List.{drop_more, drop-map, get_or-set_other}
use Rattle.std.proofs.lemmas.List.Elements.{All-set, All-replicate}
use Rattle.std.proofs.lemmas.List.Sums.{sum_by-cons, sum_by-set, sum_by-take-drop, sum_by-drop_more}
use Rattle.std.proofs.lemmas.List.Folds.{sum_by-replicate}
use Rattle.std.proofs.lemmas.Nat.{pow_pos}
use Rattle.std.proofs.lemmas.Bool.{cases_eq}
use Rattle.std.specs.Bool.{◌==◌}
use Rattle.std.proofs.Math.ListN.{length-set, length-replicate}
use Rattle.std.proofs.Math.Seq.{drop-length}
use Rattle.std.specs.List.{AllByRecursion, sum_by}
use Rattle.mg_defs.specs.Canon.{kraft, AreGood}
use Rattle.mg_defs.specs.Cost.{cost_of}
use Rattle.mg_huff.specs.Ranking.{counts_of, times_at, IsPlace, IsListed, Placed, AreInPlace}
use Rattle.mg_huff.specs.declared.counted.Counted.{Counted}

cost_of-set : (cs ls : List ℕ) (i d : ℕ) → length ls ≡ length cs → i < length ls → get_or ls i 0 ≡ 0 → cost_of cs (set ls i d) ≡ cost_of cs ls + get_or cs i 0 * d
cost_of-set [] [] i d e h z = absurd (omega arith)
cost_of-set [] (l ∷ ls) i d e h z = absurd (omega arith)
cost_of-set (c ∷ cs) [] i d e h z = absurd (omega arith)
cost_of-set (c ∷ cs) (l ∷ ls) zero d e h z = let p : l ≡ 0 = z in rw p (omega arith)
cost_of-set (c ∷ cs) (l ∷ ls) (suc i) d e h z = omega (arith, cost_of-set cs ls i d (omega arith) (omega arith) z)

kraft-set : (ls : List ℕ) (i d : ℕ) → i < length ls → get_or ls i 0 ≡ 0 → kraft (set ls i d) + 2 ^ 48 ≡ kraft ls + 2 ^ (48 - d)
kraft-set ls i d h z =
    let s = sum_by-set (λ l. 2 ^ (48 - l)) ls i d 0 h in
    subst (λ v. sum_by (λ l. 2 ^ (48 - l)) (set ls i d) + 2 ^ (48 - v) ≡ sum_by (λ l. 2 ^ (48 - l)) ls + 2 ^ (48 - d)) z s

times_at-drop : (k at : ℕ) (order : List Counted) → times_at k (drop at order) ≤ times_at k order
times_at-drop k at order = omega (arith, sum_by-take-drop (λ (p : Counted). cond (p.place == k) 1 0) order at)

kraft-positive : (d : ℕ) (ds : List ℕ) → 1 ≤ kraft (d ∷ ds)
kraft-positive d ds = omega (arith, sum_by-cons (λ l. 2 ^ (48 - l)) d ds, pow_pos (48 - d))

all_nonzero : (ds : List ℕ) → kraft ds < 2 ^ 48 → AllByRecursion (λ d. d ≤ 45) ds → AllByRecursion (λ k. (1 ≤ k) × (k ≤ 48)) ds
all_nonzero [] h all = tt
all_nonzero (zero ∷ ds) h all = absurd (omega (arith, sum_by-cons (λ l. 2 ^ (48 - l)) 0 ds))
all_nonzero (suc d ∷ ds) h all = let e : suc d ≤ 45 = all.0 in ((omega arith, omega arith), all_nonzero ds (omega (arith, sum_by-cons (λ l. 2 ^ (48 - l)) (suc d) ds)) all.1)

nonzero : (a rest : ℕ) → 2 ^ (48 - a) + rest ≡ 2 ^ 48 → 1 ≤ rest → 1 ≤ a
nonzero zero rest e h = absurd (omega arith)
nonzero (suc a) rest e h = omega arith

-- two or more lengths that fill the whole are good
pub good : (a b : ℕ) (ds : List ℕ) → kraft (a ∷ b ∷ ds) ≡ 2 ^ 48 → AllByRecursion (λ d. d ≤ 45) (a ∷ b ∷ ds) → AreGood (a ∷ b ∷ ds)
good a b ds full all =
    let c = sum_by-cons (λ l. 2 ^ (48 - l)) a (b ∷ ds) in
    let p = kraft-positive b ds in
    let first : 1 ≤ a = nonzero a (kraft (b ∷ ds)) (omega arith) p in
    let low : a ≤ 45 = all.0 in
    let rest = all_nonzero (b ∷ ds) (omega (arith, pow_pos (48 - a))) all.1 in
    (((first, omega arith), rest), full)

cost_of-zeros : (cs : List ℕ) → cost_of cs (replicate (length cs) 0) ≡ 0
cost_of-zeros [] = refl
cost_of-zeros (c ∷ cs) = omega (arith, cost_of-zeros cs)

free-zeros : (n k : ℕ) → get_or {A = ℕ} (replicate n 0) k 0 ≡ 0
free-zeros zero k = refl
free-zeros (suc n) zero = refl
free-zeros (suc n) (suc k) = free-zeros n k

pub placed_start : (counts : List ℕ) (order : List Counted) (found : List ℕ) → Placed counts order found 0 (replicate (length counts) 0)
placed_start counts order found = record {
  same_cost = omega (arith, cost_of-zeros counts);
  full = omega (arith, sum_by-replicate (λ l. 2 ^ (48 - l)) (length counts) 0);
  within = All-replicate (λ d. d ≤ 45) (length counts) 0 (omega arith);
  free = λ k h. free-zeros (length counts) k;
  same_length = length-replicate (length counts) 0;
}

module _ (counts : List ℕ) (order : List Counted) (found out : List ℕ) (at : ℕ) (p : Counted)
    (u : Placed counts order found at out) (l : IsListed counts order) (in_order : at < length order) (in_found : at < length found)
    (e : p ≡ get_or order at p) (small : get_or found at 0 ≤ 45) where
  rest_order : drop at order ≡ p ∷ drop (at + 1) order
  rest_order = drop_more order at p in_order ∙ ap (λ q. q ∷ drop (at + 1) order) (sym e)

  rest_counts : drop at (counts_of order) ≡ p.count ∷ drop (at + 1) (counts_of order)
  rest_counts = drop-map (λ (q : Counted). q.count) at order ∙ ap (λ q. counts_of q) rest_order ∙ ap (λ t. p.count ∷ t) (sym (drop-map (λ (q : Counted). q.count) (at + 1) order))

  pub is_place : IsPlace counts p
  is_place = subst (λ q. IsPlace counts q) (sym e) (l.in_place at p in_order)

  times_more : (k : ℕ) → times_at k (drop at order) ≡ cond (p.place == k) 1 0 + times_at k (drop (at + 1) order)
  times_more k = ap (λ t. times_at k t) rest_order ∙ sum_by-cons (λ (q : Counted). cond (q.place == k) 1 0) p (drop (at + 1) order)

  times_here : (k : ℕ) → p.place ≡ k → times_at k (drop at order) ≡ 1 + times_at k (drop (at + 1) order)
  times_here k same = let m = times_more k in grind (arith, nat_tests)

  times_there : (k : ℕ) → (p.place ≡ k → ⊥) → times_at k (drop at order) ≡ times_at k (drop (at + 1) order)
  times_there k other = let m = times_more k in grind (arith, nat_tests)

  free_here : get_or out p.place 0 ≡ 0
  free_here = u.free p.place (omega (arith, times_here p.place refl))

  in_out : p.place < length out
  in_out = let a = is_place.0 in let b = u.same_length in omega arith

  free_more : (k : ℕ) → 1 ≤ times_at k (drop (at + 1) order) → get_or (set out p.place (get_or found at 0)) k 0 ≡ 0
  free_more k h = ⊎_elim
      (λ same. absurd (omega (arith, times_here k same, times_at-drop k at order, l.once k)))
      (λ other. get_or-set_other out p.place k (get_or found at 0) 0 (λ f. other (sym f)) ∙ u.free k (omega (arith, times_there k other)))
      (cases_eq p.place k)

  cost_more : cost_of counts (set out p.place (get_or found at 0)) + cost_of (drop (at + 1) (counts_of order)) (drop (at + 1) found) ≡ cost_of (counts_of order) found
  cost_more =
      let c = cost_of-set counts out p.place (get_or found at 0) u.same_length in_out free_here in
      let w = is_place.1 in
      let old = subst (λ f. cost_of counts out + cost_of (p.count ∷ drop (at + 1) (counts_of order)) f ≡ cost_of (counts_of order) found) (drop_more found at 0 in_found)
      (subst (λ t. cost_of counts out + cost_of t (drop at found) ≡ cost_of (counts_of order) found) rest_counts u.same_cost) in
      let v = ap (λ n. n * get_or found at 0) w in
      omega arith

  full_more : kraft (set out p.place (get_or found at 0)) + kraft (drop (at + 1) found) + (at + 1) * 2 ^ 48 ≡ length counts * 2 ^ 48 + kraft found
  full_more =
      let c = kraft-set out p.place (get_or found at 0) in_out free_here in
      let d = sum_by-drop_more (λ l. 2 ^ (48 - l)) found at 0 in_found in
      let old = u.full in
      omega arith

  pub placed_more : Placed counts order found (at + 1) (set out p.place (get_or found at 0))
  placed_more = record {
    same_cost = cost_more;
    full = full_more;
    within = All-set (λ d. d ≤ 45) out p.place (get_or found at 0) small u.within;
    free = free_more;
    same_length = length-set out p.place (get_or found at 0) ∙ u.same_length;
  }

pub placed_all : (counts : List ℕ) (order : List Counted) (found out : List ℕ) (at : ℕ) → Placed counts order found at out → at ≡ length counts →
    length (counts_of order) ≡ length counts → length found ≡ length counts → AreInPlace counts order found out
placed_all counts order found out at u e f g =
    let no_counts : drop at (counts_of order) ≡ [] = ap (λ n. drop n (counts_of order)) (e ∙ sym f) ∙ drop-length (counts_of order) in
    let no_found : drop at found ≡ [] = ap (λ n. drop n found) (e ∙ sym g) ∙ drop-length found in
    let c = subst (λ t. cost_of counts out + cost_of t (drop at found) ≡ cost_of (counts_of order) found) no_counts u.same_cost in
    let k = subst (λ t. kraft out + kraft t + at * 2 ^ 48 ≡ length counts * 2 ^ 48 + kraft found) no_found u.full in
    record { same_cost = omega arith; full = omega arith; within = u.within; same_length = u.same_length }
