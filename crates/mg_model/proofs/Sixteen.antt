-- Sixteen bytes as a number, the lowest first: a byte that is put in at the top moves the others down.
use Rattle.std.proofs.Common.{◌≡◌, ℕ, zero, suc, ◌+◌, ◌-◌, ◌*◌, ◌/◌, ◌%◌, ◌^◌, ◌<◌, ◌≤◌, List, [], ◌∷◌, ◌++◌, length, take, drop, get_or, replicate, Some, sym, ap, ◌∙◌, arith, append-nil, ◌&&◌, true, eqb, slice_index, length-drop}
use Rattle.std.specs.Int.{to_le_bytes, w128}
use Rattle.std.specs.Cmp.{both_ways}
use Rattle.std.specs.Cmp.Lexicographic.{bytes_decides}
use Rattle.std.specs.Str.{bytes_eq}
use Rattle.std.proofs.lemmas.Bool.{and_from, and_parts, eq-eqb, eqb-true}
use Rattle.std.proofs.lemmas.List.{append_assoc, take-append-drop}
use Rattle.std.proofs.lemmas.Option.{slice_get-get_or}
use Rattle.std.proofs.lemmas.Nat.{pow-add}
use Rattle.std.proofs.Math.Nat.{div-div-eq-div-mul}
use Rattle.mg_defs.specs.Numbers.{eight, eight_at}
use Rattle.mg_defs.proofs.NumberLaws.{eight_read}
use Rattle.mg_model.proofs.Lists.{take-all, take-there}

abbrev pub sixteen : ℕ → List ℕ
sixteen n = to_le_bytes w128 n

pub put-top : (n b : ℕ) → n < 2 ^ 128 → b < 256 → sixteen (n / 256 + b * 2 ^ 120) ≡ drop 1 (sixteen n) ++ b ∷ []
put-top n b fits small =
    let e0 : (n / 256 + b * 2 ^ 120) % 256 ≡ n / 256 ^ 1 % 256 = omega arith in
    let e1 : (n / 256 + b * 2 ^ 120) / 256 ^ 1 % 256 ≡ n / 256 ^ 2 % 256 = omega arith in
    let e2 : (n / 256 + b * 2 ^ 120) / 256 ^ 2 % 256 ≡ n / 256 ^ 3 % 256 = omega arith in
    let e3 : (n / 256 + b * 2 ^ 120) / 256 ^ 3 % 256 ≡ n / 256 ^ 4 % 256 = omega arith in
    let e4 : (n / 256 + b * 2 ^ 120) / 256 ^ 4 % 256 ≡ n / 256 ^ 5 % 256 = omega arith in
    let e5 : (n / 256 + b * 2 ^ 120) / 256 ^ 5 % 256 ≡ n / 256 ^ 6 % 256 = omega arith in
    let e6 : (n / 256 + b * 2 ^ 120) / 256 ^ 6 % 256 ≡ n / 256 ^ 7 % 256 = omega arith in
    let e7 : (n / 256 + b * 2 ^ 120) / 256 ^ 7 % 256 ≡ n / 256 ^ 8 % 256 = omega arith in
    let e8 : (n / 256 + b * 2 ^ 120) / 256 ^ 8 % 256 ≡ n / 256 ^ 9 % 256 = omega arith in
    let e9 : (n / 256 + b * 2 ^ 120) / 256 ^ 9 % 256 ≡ n / 256 ^ 10 % 256 = omega arith in
    let e10 : (n / 256 + b * 2 ^ 120) / 256 ^ 10 % 256 ≡ n / 256 ^ 11 % 256 = omega arith in
    let e11 : (n / 256 + b * 2 ^ 120) / 256 ^ 11 % 256 ≡ n / 256 ^ 12 % 256 = omega arith in
    let e12 : (n / 256 + b * 2 ^ 120) / 256 ^ 12 % 256 ≡ n / 256 ^ 13 % 256 = omega arith in
    let e13 : (n / 256 + b * 2 ^ 120) / 256 ^ 13 % 256 ≡ n / 256 ^ 14 % 256 = omega arith in
    let e14 : (n / 256 + b * 2 ^ 120) / 256 ^ 14 % 256 ≡ n / 256 ^ 15 % 256 = omega arith in
    let e15 : (n / 256 + b * 2 ^ 120) / 256 ^ 15 % 256 ≡ b = omega (arith, small, fits) in
    λ i. e0 i ∷ e1 i ∷ e2 i ∷ e3 i ∷ e4 i ∷ e5 i ∷ e6 i ∷ e7 i ∷ e8 i ∷ e9 i ∷ e10 i ∷ e11 i ∷ e12 i ∷ e13 i ∷ e14 i ∷ e15 i ∷ []

pub first-top : (first : ℕ) → first < 256 → sixteen (first * 2 ^ 120) ≡ replicate 15 0 ++ first ∷ []
first-top first small = let n : first * 2 ^ 120 ≡ 0 / 256 + first * 2 ^ 120 = omega arith in ap sixteen n ∙ put-top 0 first (omega arith) small

pub next-top : (n b first i : ℕ) (bytes : List ℕ) → n < 2 ^ 128 → b < 256 → length bytes ≤ 15 → i < length bytes → b ≡ get_or bytes i 0 →
    sixteen n ≡ replicate (15 - i) 0 ++ first ∷ take i bytes → sixteen (n / 256 + b * 2 ^ 120) ≡ replicate (15 - (i + 1)) 0 ++ first ∷ take (i + 1) bytes
next-top n b first i bytes fits small few low read is =
    let left : 15 - i ≡ suc (15 - (i + 1)) = omega (arith, few, low) in
    let more : take (i + 1) bytes ≡ take i bytes ++ b ∷ [] = take-there bytes i b (slice_get-get_or bytes i 0 low ∙ ap Some (sym read)) in
    put-top n b fits small ∙ ap (λ l. drop 1 l ++ b ∷ []) (is ∙ ap (λ k. replicate k 0 ++ first ∷ take i bytes) left)
    ∙ append_assoc (replicate (15 - (i + 1)) 0) (first ∷ take i bytes) (b ∷ []) ∙ ap (λ l. replicate (15 - (i + 1)) 0 ++ first ∷ l) (sym more)

-- bytes that are moved down, over zeros
down : (k n : ℕ) (bytes : List ℕ) → n < 2 ^ 128 → sixteen n ≡ replicate k 0 ++ bytes → sixteen (n / 2 ^ (8 * k)) ≡ bytes ++ replicate k 0
down zero n bytes fits is = let same : n / 2 ^ (8 * 0) ≡ n = omega arith in ap sixteen same ∙ is ∙ sym (append-nil bytes)
down (suc k) n bytes fits is =
    let same : n / 256 ≡ n / 256 + 0 * 2 ^ 120 = omega arith in
    let one : sixteen (n / 256) ≡ replicate k 0 ++ (bytes ++ 0 ∷ []) = ap sixteen same ∙ put-top n 0 fits (omega arith) ∙ ap (λ l. drop 1 l ++ 0 ∷ []) is
    ∙ append_assoc (replicate k 0) bytes (0 ∷ []) in
    let eight : 8 * suc k ≡ 8 + 8 * k = omega arith in
    let power : 2 ^ (8 * suc k) ≡ 256 * 2 ^ (8 * k) = ap (λ e. 2 ^ e) eight ∙ pow-add 2 8 (8 * k) in
    ap (λ p. sixteen (n / p)) power ∙ ap sixteen (sym (div-div-eq-div-mul n 256 (2 ^ (8 * k)))) ∙ down k (n / 256) (bytes ++ 0 ∷ []) (omega (arith, fits)) one
    ∙ append_assoc bytes (0 ∷ []) (replicate k 0)

pub at-last : (n first : ℕ) (bytes : List ℕ) → n < 2 ^ 128 → sixteen n ≡ replicate (15 - length bytes) 0 ++ first ∷ bytes →
    sixteen (n / 2 ^ (8 * (15 - length bytes))) ≡ first ∷ bytes ++ replicate (15 - length bytes) 0
at-last n first bytes fits is = down (15 - length bytes) n (first ∷ bytes) fits is

-- ---- sixteen bytes by their halves

half : (one other : List ℕ) (at : ℕ) → at + 8 ≤ length one → at + 8 ≤ length other → ((i : ℕ) → slice_index one i < 256) → ((i : ℕ) → slice_index other i < 256) →
    eight_at one at ≡ eight_at other at → take 8 (drop at one) ≡ take 8 (drop at other)
half one other at long wide small few same = sym (eight_read one at small long) ∙ ap eight same ∙ eight_read other at few wide

pub halves-same : (one other : List ℕ) → length one ≡ 16 → length other ≡ 16 → ((i : ℕ) → slice_index one i < 256) → ((i : ℕ) → slice_index other i < 256) →
    (eqb (eight_at one 0) (eight_at other 0) && eqb (eight_at one 8) (eight_at other 8)) ≡ bytes_eq one other
halves-same one other long wide small few =
    both_ways (eqb (eight_at one 0) (eight_at other 0) && eqb (eight_at one 8) (eight_at other 8)) (bytes_eq one other)
    (λ h. (bytes_decides one other).1 (joined (and_parts _ _ h)))
    (λ h. let same : one ≡ other = (bytes_decides one other).0 h in
    and_from _ _ (eq-eqb _ _ (ap (λ l. eight_at l 0) same)) (eq-eqb _ _ (ap (λ l. eight_at l 8) same)))
  where
    joined : (eqb (eight_at one 0) (eight_at other 0) ≡ true) × (eqb (eight_at one 8) (eight_at other 8) ≡ true) → one ≡ other
    joined h =
        let low : take 8 one ≡ take 8 other = half one other 0 (omega (arith, long)) (omega (arith, wide)) small few (eqb-true (eight_at one 0) (eight_at other 0) h.0) in
        let high : take 8 (drop 8 one) ≡ take 8 (drop 8 other) = half one other 8 (omega (arith, long)) (omega (arith, wide)) small few (eqb-true (eight_at one 8) (eight_at other 8) h.1) in
        let rest : drop 8 one ≡ drop 8 other = sym (take-all (drop 8 one) 8 (omega (arith, length-drop 8 one, long))) ∙ high
        ∙ take-all (drop 8 other) 8 (omega (arith, length-drop 8 other, wide)) in
        sym (take-append-drop 8 one) ∙ (λ i. low i ++ rest i) ∙ take-append-drop 8 other
