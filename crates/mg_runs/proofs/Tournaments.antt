-- Tournaments, one node after the other.
use Rattle.std.proofs.Common.{◌≡◌, ◌≢◌, ℕ, zero, suc, ◌+◌, ◌-◌, ◌*◌, ◌/◌, ◌<◌, ◌≤◌, ◌⊎◌, inl, inr, List, [], ◌∷◌, length, refl, sym, ap, ◌∙◌, subst, arith, get_or, set, drop, length-set, length-drop}
use Rattle.std.proofs.lemmas.Bool.{cases_lt, cases_eq}
use Rattle.std.proofs.lemmas.List.{ext_get_or, get_or-drop, get_or-set_other, get_or-set_same, get_or_default}
use Rattle.mg_runs.specs.Tournament.{IsLesser, IsNode, IsPlayedAt, IsPlayedBut, IsPlayedFrom, IsTournament}

-- ---- lists by their places

drop_same : (n : ℕ) (xs ys : List ℕ) → length xs ≡ length ys → ((k : ℕ) → n ≤ k → get_or xs k 0 ≡ get_or ys k 0) → drop n xs ≡ drop n ys
drop_same n xs ys e same =
    ext_get_or 0 (drop n xs) (drop n ys) (length-drop n xs ∙ ap (λ k. k - n) e ∙ sym (length-drop n ys))
    (λ i h. get_or-drop n xs i 0 ∙ same (n + i) (omega arith) ∙ sym (get_or-drop n ys i 0))

drop-set : (n i j : ℕ) (xs : List ℕ) (v : ℕ) → j ≡ n + i → drop n (set xs j v) ≡ set (drop n xs) i v
drop-set zero i j xs v e = let z : j ≡ i = omega arith in ap (λ k. set xs k v) z
drop-set (suc n) i j [] v e = refl
drop-set (suc n) i zero (x ∷ xs) v e = absurd (omega arith)
drop-set (suc n) i (suc j) (x ∷ xs) v e = drop-set n i j xs v (omega arith)

-- ---- nodes

-- a node stays such where its own key and those below it stay
kept : (ks ws ls xs : List ℕ) (i : ℕ) → IsNode ks ws i → get_or ls i 0 ≡ get_or ks i 0 → get_or ls (2 * i) 0 ≡ get_or ks (2 * i) 0 →
    get_or ls (2 * i + 1) 0 ≡ get_or ks (2 * i + 1) 0 → get_or xs i 0 ≡ get_or ws i 0 → get_or xs (2 * i) 0 ≡ get_or ws (2 * i) 0 →
    get_or xs (2 * i + 1) 0 ≡ get_or ws (2 * i + 1) 0 → IsNode ls xs i
kept ks ws ls xs i node a b c d e f = record {
  left = let h = node.left in omega arith;
  right = let h = node.right in omega arith;
  from = elim node.from [
    | inl both ↦ inl (a ∙ both.0 ∙ sym b, d ∙ both.1 ∙ sym e)
    | inr both ↦ inr (a ∙ both.0 ∙ sym c, d ∙ both.1 ∙ sym f)
  ];
}

child_within : (i child : ℕ) → (child ≡ 2 * i) ⊎ (child ≡ 2 * i + 1) → child ≤ 2 * i + 1
child_within i child (inl e) = omega arith
child_within i child (inr e) = omega arith

-- a node that takes the key and the winner of the lesser node below it
pub played_at : (i child : ℕ) (ks ws : List ℕ) → 1 ≤ i → 2 * i + 1 < length ks → 2 * i + 1 < length ws → IsLesser ks i child → (key winner : ℕ) →
    key ≡ get_or ks child key → winner ≡ get_or ws child winner → IsPlayedAt i ks ws (set ks i key) (set ws i winner)
played_at i child ks ws some keys winners lesser key winner read who_read =
    let within : child ≤ 2 * i + 1 = child_within i child lesser.below in
    let key_is : key ≡ get_or ks child 0 = read ∙ get_or_default ks child key 0 (omega arith) in
    let winner_is : winner ≡ get_or ws child 0 = who_read ∙ get_or_default ws child winner 0 (omega arith) in
    let own : get_or (set ks i key) i 0 ≡ key = get_or-set_same ks i key 0 (omega arith) in
    let who : get_or (set ws i winner) i 0 ≡ winner = get_or-set_same ws i winner 0 (omega arith) in
    let left : get_or (set ks i key) (2 * i) 0 ≡ get_or ks (2 * i) 0 = get_or-set_other ks i (2 * i) key 0 (λ e. omega arith) in
    let right : get_or (set ks i key) (2 * i + 1) 0 ≡ get_or ks (2 * i + 1) 0 = get_or-set_other ks i (2 * i + 1) key 0 (λ e. omega arith) in
    let who_left : get_or (set ws i winner) (2 * i) 0 ≡ get_or ws (2 * i) 0 = get_or-set_other ws i (2 * i) winner 0 (λ e. omega arith) in
    let who_right : get_or (set ws i winner) (2 * i + 1) 0 ≡ get_or ws (2 * i + 1) 0 = get_or-set_other ws i (2 * i + 1) winner 0 (λ e. omega arith) in
    record {
      node = record {
        left = omega (arith, own, key_is, left, lesser.left);
        right = omega (arith, own, key_is, right, lesser.right);
        from = elim lesser.below [
          | inl e ↦ inl (own ∙ key_is ∙ ap (λ k. get_or ks k 0) e ∙ sym left, who ∙ winner_is ∙ ap (λ k. get_or ws k 0) e ∙ sym who_left)
          | inr e ↦ inr (own ∙ key_is ∙ ap (λ k. get_or ks k 0) e ∙ sym right, who ∙ winner_is ∙ ap (λ k. get_or ws k 0) e ∙ sym who_right)
        ];
      };
      same_keys = λ k other. get_or-set_other ks i k key 0 other;
      same_winners = λ k other. get_or-set_other ws i k winner 0 other;
      keys_length = length-set ks i key;
      winners_length = length-set ws i winner;
    }

-- a node was played: its parent may be off now
pub played : {i count : ℕ} {ks ws ls xs : List ℕ} → IsPlayedBut i count ks ws → 1 ≤ i → i < count → IsPlayedAt i ks ws ls xs →
    IsPlayedBut (i / 2) count ls xs
played {i = i} {count = count} {ks = ks} {ws = ws} {ls = ls} {xs = xs} t low high now = record {
  keys_length = now.keys_length ∙ t.keys_length;
  winners_length = now.winners_length ∙ t.winners_length;
  leaves = λ k h. now.same_winners (count + k) (λ e. omega arith) ∙ t.leaves k h;
  nodes = λ j l h other. elim (cases_eq j i) [
    | inl same ↦ subst (λ n. IsNode ls xs n) (sym same) now.node
    | inr apart ↦
        let left : 2 * j ≡ i → ⊥ = λ e. other (omega arith) in
        let right : 2 * j + 1 ≡ i → ⊥ = λ e. other (omega arith) in
        kept ks ws ls xs j (t.nodes j l h apart) (now.same_keys j apart) (now.same_keys (2 * j) left) (now.same_keys (2 * j + 1) right)
        (now.same_winners j apart) (now.same_winners (2 * j) left) (now.same_winners (2 * j + 1) right)
  ];
}

-- a leaf has another key: its parent may be off now
pub changed : (count leaf key : ℕ) (ks ws : List ℕ) → IsPlayedBut 0 count ks ws → count ≤ leaf → IsPlayedBut (leaf / 2) count (set ks leaf key) ws
changed count leaf key ks ws t high = record {
  keys_length = length-set ks leaf key ∙ t.keys_length;
  winners_length = t.winners_length;
  leaves = t.leaves;
  nodes = λ j l h other.
      let own : j ≢ leaf = λ e. omega arith in
      let left : 2 * j ≢ leaf = λ e. other (omega arith) in
      let right : 2 * j + 1 ≢ leaf = λ e. other (omega arith) in
      kept ks ws (set ks leaf key) ws j (t.nodes j l h (λ e. omega arith)) (get_or-set_other ks leaf j key 0 own) (get_or-set_other ks leaf (2 * j) key 0 left)
      (get_or-set_other ks leaf (2 * j + 1) key 0 right) refl refl refl;
}

-- the keys of the contestants, once one has changed
pub key_set : (count contestant key : ℕ) (ks ls : List ℕ) → length ls ≡ length ks →
    ((k : ℕ) → count ≤ k → get_or ls k 0 ≡ get_or (set ks (count + contestant) key) k 0) → drop count ls ≡ set (drop count ks) contestant key
key_set count contestant key ks ls len same =
    drop_same count ls (set ks (count + contestant) key) (len ∙ sym (length-set ks (count + contestant) key)) same ∙ drop-set count contestant (count + contestant) ks key refl

-- a node was played on the way down
pub played_down : {i from count : ℕ} {ks ws ls xs : List ℕ} → IsPlayedFrom from count ks ws → from ≡ i + 1 → 1 ≤ i → i < count →
    IsPlayedAt i ks ws ls xs → IsPlayedFrom i count ls xs
played_down {i = i} {from = from} {count = count} {ks = ks} {ws = ws} {ls = ls} {xs = xs} t next low high now = record {
  keys_length = now.keys_length ∙ t.keys_length;
  winners_length = now.winners_length ∙ t.winners_length;
  leaves = λ k h. now.same_winners (count + k) (λ e. omega arith) ∙ t.leaves k h;
  nodes = λ j l h above. elim (cases_eq j i) [
    | inl same ↦ subst (λ n. IsNode ls xs n) (sym same) now.node
    | inr apart ↦
        let more : from ≤ j = strictly i j from above apart next in
        let left : 2 * j ≡ i → ⊥ = λ e. omega arith in
        let right : 2 * j + 1 ≡ i → ⊥ = λ e. omega arith in
        kept ks ws ls xs j (t.nodes j l h more) (now.same_keys j apart) (now.same_keys (2 * j) left) (now.same_keys (2 * j + 1) right)
        (now.same_winners j apart) (now.same_winners (2 * j) left) (now.same_winners (2 * j + 1) right)
  ];
}
  where
    strictly : (i j from : ℕ) → i ≤ j → (j ≡ i → ⊥) → from ≡ i + 1 → from ≤ j
    strictly i j from h apart e = omega arith

pub played_all : (i count : ℕ) (ks ws : List ℕ) → IsPlayedFrom i count ks ws → i ≤ 1 → IsPlayedBut 0 count ks ws
played_all i count ks ws t low = record {
  keys_length = t.keys_length;
  winners_length = t.winners_length;
  leaves = t.leaves;
  nodes = λ j l h other. t.nodes j l h (omega arith);
}

-- ---- the root

-- whose key a node has
record IsFound (count : ℕ) (ks ws : List ℕ) (i r : ℕ) : Type 0 where
  within : r < count
  key : get_or ks i 0 ≡ get_or ks (count + r) 0
  who : get_or ws i 0 ≡ r

down : (fuel count i : ℕ) (ks ws : List ℕ) → IsPlayedBut 0 count ks ws → 2 * count ≤ i + fuel → 1 ≤ i → i < 2 * count → (r : ℕ) × IsFound count ks ws i r
down zero count i ks ws t enough low high = absurd (omega arith)
down (suc fuel) count i ks ws t enough low high = elim (cases_lt i count) [
  | inr leaf ↦
      let e : count + (i - count) ≡ i = omega arith in
      let within : i - count < count = omega arith in (
        i - count,
        record {
          within = within;
          key = ap (λ k. get_or ks k 0) (sym e);
          who = ap (λ k. get_or ws k 0) (sym e) ∙ t.leaves (i - count) within;
        },
      )
  | inl inner ↦ elim ((t.nodes i low inner (λ e. omega arith)).from) [
    | inl both ↦
        let below = down fuel count (2 * i) ks ws t (omega arith) (omega arith) (omega arith) in
        (below.0, record { within = below.1.within; key = both.0 ∙ below.1.key; who = both.1 ∙ below.1.who })
    | inr both ↦
        let below = down fuel count (2 * i + 1) ks ws t (omega arith) (omega arith) (omega arith) in
        (below.0, record { within = below.1.within; key = both.0 ∙ below.1.key; who = both.1 ∙ below.1.who })
  ]
]

up : (fuel count i : ℕ) (ks ws : List ℕ) → IsPlayedBut 0 count ks ws → i ≤ fuel → 1 ≤ i → i < 2 * count → get_or ks 1 0 ≤ get_or ks i 0
up zero count i ks ws t enough low high = absurd (omega arith)
up (suc fuel) count i ks ws t enough low high = elim (cases_lt 1 i) [
  | inr root ↦ let e : i ≡ 1 = omega arith in subst (λ k. get_or ks 1 0 ≤ get_or ks k 0) (sym e) (omega arith)
  | inl more ↦
      let above : get_or ks 1 0 ≤ get_or ks (i / 2) 0 = up fuel count (i / 2) ks ws t (omega arith) (omega arith) (omega arith) in
      let node : IsNode ks ws (i / 2) = t.nodes (i / 2) (omega arith) (omega arith) (λ e. omega arith) in
      elim (cases_eq i (2 * (i / 2))) [
        | inl even ↦ subst (λ k. get_or ks 1 0 ≤ get_or ks k 0) (sym even) (let h = node.left in omega arith)
        | inr odd ↦
            let e : i ≡ 2 * (i / 2) + 1 = odd_is i odd in
            subst (λ k. get_or ks 1 0 ≤ get_or ks k 0) (sym e) (let h = node.right in omega arith)
      ]
]
  where
    odd_is : (i : ℕ) → (i ≡ 2 * (i / 2) → ⊥) → i ≡ 2 * (i / 2) + 1
    odd_is i h = omega arith

length-contestants : (count : ℕ) (ks : List ℕ) → length ks ≡ 2 * count → length (drop count ks) ≡ count
length-contestants count ks e = omega (arith, length-drop count ks)

pub how_many : (count : ℕ) (ks ws : List ℕ) → IsTournament count ks ws → length (drop count ks) ≡ count
how_many count ks ws t = length-contestants count ks t.played.keys_length

pub least_within : (count : ℕ) (ks ws : List ℕ) → IsTournament count ks ws → get_or ws 1 0 < length (drop count ks)
least_within count ks ws t =
    let some = t.some in
    let f = down (2 * count) count 1 ks ws t.played (omega arith) (omega arith) (omega arith) in
    omega (arith, f.1.within, f.1.who, how_many count ks ws t)

pub least_least : (count : ℕ) (ks ws : List ℕ) → IsTournament count ks ws → (k : ℕ) → k < length (drop count ks) → get_or (drop count ks) (get_or ws 1 0) 0 ≤ get_or (drop count ks) k 0
least_least count ks ws t k h =
    let some = t.some in
    let f = down (2 * count) count 1 ks ws t.played (omega arith) (omega arith) (omega arith) in
    let n = how_many count ks ws t in
    let a : get_or (drop count ks) (get_or ws 1 0) 0 ≡ get_or ks 1 0 = get_or-drop count ks (get_or ws 1 0) 0 ∙ ap (λ r. get_or ks (count + r) 0) f.1.who ∙ sym f.1.key in
    let b : get_or (drop count ks) k 0 ≡ get_or ks (count + k) 0 = get_or-drop count ks k 0 in
    let c : get_or ks 1 0 ≤ get_or ks (count + k) 0 = up (count + k) count (count + k) ks ws t.played (omega arith) (omega arith) (omega arith) in
    omega arith
