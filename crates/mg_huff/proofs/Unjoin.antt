-- One join taken back: its node makes way for the two that it joined.
use Rattle.std.proofs.Common.{◌≡◌, ℕ, suc, ◌+◌, ◌-◌, ◌*◌, ◌^◌, ◌≤◌, Bool, true, false, List, [], ◌∷◌, ◌++◌, arith}
use Rattle.std.proofs.Math.Nat.{mul-le-mul_left}
use Rattle.std.proofs.lemmas.List.Sums.{sum_by-append, sum_by-cons}
use Rattle.std.specs.List.{AllZip}
use Rattle.mg_defs.specs.Canon.{kraft}
use Rattle.mg_defs.specs.Cost.{cost_of}
use Rattle.mg_huff.specs.Forest.{on_leaves, on_inner, fib, IsWithin, Spread}
use Rattle.mg_huff.proofs.Fib.{fib-step}

cost_of-push : (R : ℕ → ℕ → Type 0) (ws ds : List ℕ) (w d : ℕ) → AllZip R (ws ++ w ∷ []) (ds ++ d ∷ []) → cost_of (ws ++ w ∷ []) (ds ++ d ∷ []) ≡ cost_of ws ds + w * d
cost_of-push R [] [] w d all = omega arith
cost_of-push R [] (e ∷ []) w d all = absurd all.1
cost_of-push R [] (e ∷ f ∷ ds) w d all = absurd all.1
cost_of-push R (v ∷ []) [] w d all = absurd all.1
cost_of-push R (v ∷ u ∷ ws) [] w d all = absurd all.1
cost_of-push R (v ∷ ws) (e ∷ ds) w d all = omega (arith, cost_of-push R ws ds w d all.1)

pub AllZip-pop : (R : ℕ → ℕ → Type 0) (ws ds : List ℕ) (w d : ℕ) → AllZip R (ws ++ w ∷ []) (ds ++ d ∷ []) → AllZip R ws ds × R w d
AllZip-pop R [] [] w d all = (tt, all.0)
AllZip-pop R [] (e ∷ []) w d all = absurd all.1
AllZip-pop R [] (e ∷ f ∷ ds) w d all = absurd all.1
AllZip-pop R (v ∷ []) [] w d all = absurd all.1
AllZip-pop R (v ∷ u ∷ ws) [] w d all = absurd all.1
AllZip-pop R (v ∷ ws) (e ∷ ds) w d all = let r = AllZip-pop R ws ds w d all.1 in ((all.0, r.0), r.1)

AllZip-weaker : (R S : ℕ → ℕ → Type 0) → ((w d : ℕ) → R w d → S w d) → (ws ds : List ℕ) → AllZip R ws ds → AllZip S ws ds
AllZip-weaker R S f [] [] all = tt
AllZip-weaker R S f [] (d ∷ ds) all = all
AllZip-weaker R S f (w ∷ ws) [] all = all
AllZip-weaker R S f (w ∷ ws) (d ∷ ds) all = (f w d all.0, AllZip-weaker R S f ws ds all.1)

IsWithin-before : (whole last before : ℕ) → before ≤ last → (w d : ℕ) → IsWithin whole last w d → IsWithin whole before w d
IsWithin-before whole last before h w d within = omega (arith, mul-le-mul_left (fib d) h)

first_within : (whole a last before d : ℕ) → before ≤ a → a ≤ last → IsWithin whole last (a + last) d → IsWithin whole before a (suc d)
first_within whole a last before d h k within =
    rw (fib-step d) (omega (arith, within, mul-le-mul_left (fib d) k, mul-le-mul_left (fib (suc d)) h, mul-le-mul_left (fib (suc d)) k))

second_within : (whole a last before d : ℕ) → before ≤ a → a ≤ last → IsWithin whole last (a + last) d → IsWithin whole before last (suc d)
second_within whole a last before d h k within =
    rw (fib-step d) (omega (arith, within, mul-le-mul_left (fib (suc d)) h))

half : (d : ℕ) → d ≤ 45 → 2 ^ (48 - d) ≡ 2 ^ (48 - suc d) + 2 ^ (48 - suc d)
half d h = let e : 48 - d ≡ suc (48 - suc d) = omega arith in rw e (omega arith)

cost_of-placed : (is_leaf : Bool) (w d : ℕ) (leaves inner dl di : List ℕ) → cost_of (on_leaves is_leaf w leaves) (on_leaves is_leaf d dl)
    + cost_of (on_inner is_leaf w inner) (on_inner is_leaf d di) ≡ w * d + (cost_of leaves dl + cost_of inner di)
cost_of-placed true w d leaves inner dl di = omega arith
cost_of-placed false w d leaves inner dl di = omega arith

kraft-placed : (is_leaf : Bool) (d : ℕ) (dl di : List ℕ) → kraft (on_leaves is_leaf d dl) + kraft (on_inner is_leaf d di) ≡ 2 ^ (48 - d) + (kraft dl + kraft di)
kraft-placed true d dl di = omega (arith, sum_by-cons (λ l. 2 ^ (48 - l)) d dl)
kraft-placed false d dl di = omega (arith, sum_by-cons (λ l. 2 ^ (48 - l)) d di)

leaves-placed : (R : ℕ → ℕ → Type 0) (is_leaf : Bool) (w d : ℕ) (ws ds : List ℕ) → R w d → AllZip R ws ds → AllZip R (on_leaves is_leaf w ws) (on_leaves is_leaf d ds)
leaves-placed R true w d ws ds h all = (h, all)
leaves-placed R false w d ws ds h all = all

inner-placed : (R : ℕ → ℕ → Type 0) (is_leaf : Bool) (w d : ℕ) (ws ds : List ℕ) → R w d → AllZip R ws ds → AllZip R (on_inner is_leaf w ws) (on_inner is_leaf d ds)
inner-placed R true w d ws ds h all = all
inner-placed R false w d ws ds h all = (h, all)

module _ (whole total : ℕ) (first second : Bool) (a last before older : ℕ) (leaves rest dl di : List ℕ) (d : ℕ) (h : before ≤ a) (k : a ≤ last) (deep : d ≤ 45) where
  abbrev pub new_leaves : List ℕ
  new_leaves = on_leaves first a (on_leaves second last leaves)

  abbrev pub new_inner : List ℕ
  new_inner = on_inner first a (on_inner second last rest)

  abbrev pub new_dl : List ℕ
  new_dl = on_leaves first (suc d) (on_leaves second (suc d) dl)

  abbrev pub new_di : List ℕ
  new_di = on_inner first (suc d) (on_inner second (suc d) di)

  unjoin-cost : AllZip (IsWithin whole last) (rest ++ (a + last) ∷ []) (di ++ d ∷ []) → cost_of leaves dl + cost_of (rest ++ (a + last) ∷ []) (di ++ d ∷ [])
      + (older + (a + last)) ≡ total → cost_of new_leaves new_dl + cost_of new_inner new_di + older ≡ total
  unjoin-cost all e =
      let p = cost_of-placed first a (suc d) (on_leaves second last leaves) (on_inner second last rest) (on_leaves second (suc d) dl) (on_inner second (suc d) di) in
      let q = cost_of-placed second last (suc d) leaves rest dl di in
      let r = cost_of-push (IsWithin whole last) rest di (a + last) d all in
      omega arith

  unjoin-kraft : kraft dl + kraft (di ++ d ∷ []) ≡ 2 ^ 48 → kraft new_dl + kraft new_di ≡ 2 ^ 48
  unjoin-kraft e =
      let p = kraft-placed first (suc d) (on_leaves second (suc d) dl) (on_inner second (suc d) di) in
      let q = kraft-placed second (suc d) dl di in
      let r = sum_by-append (λ l. 2 ^ (48 - l)) di (d ∷ []) in
      omega (arith, half d deep)

  pub unjoin : Spread whole total leaves (rest ++ (a + last) ∷ []) dl (di ++ d ∷ []) last (older + (a + last)) → Spread whole total new_leaves new_inner new_dl new_di before older
  unjoin s =
      let pop = AllZip-pop (IsWithin whole last) rest di (a + last) d s.inner_within in
      let one = first_within whole a last before d h k pop.1 in
      let two = second_within whole a last before d h k pop.1 in
      let low : before ≤ last = omega arith in
      let weaker = AllZip-weaker (IsWithin whole last) (IsWithin whole before) (IsWithin-before whole last before low) in
      record {
        same_cost = unjoin-cost s.inner_within s.same_cost;
        full = unjoin-kraft s.full;
        leaves_within = leaves-placed (IsWithin whole before) first a (suc d) _ _ one (leaves-placed (IsWithin whole before) second last (suc d) _ _ two (weaker leaves dl s.leaves_within));
        inner_within = inner-placed (IsWithin whole before) first a (suc d) _ _ one (inner-placed (IsWithin whole before) second last (suc d) _ _ two (weaker rest di pop.0));
      }
