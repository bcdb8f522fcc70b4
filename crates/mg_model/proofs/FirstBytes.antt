-- Sixteen bytes that are read as a number, the lowest first: a byte that is put in below moves the others up, and those above a place are cut off.
use Rattle.std.proofs.Common.{◌≡◌, ℕ, zero, suc, ◌+◌, ◌-◌, ◌*◌, ◌/◌, ◌%◌, ◌^◌, ◌<◌, ◌≤◌, List, [], ◌∷◌, ◌++◌, length, take, drop, replicate, refl, sym, ap, ◌∙◌, arith, append-nil, slice_index, length-drop}
use Rattle.std.specs.Int.{from_le_bytes, w128}
use Rattle.std.specs.Int.Bits.{bit_and}
use Rattle.std.proofs.lemmas.List.{drop_more, length-take-le, take-append-le, take-replicate}
use Rattle.std.proofs.Math.Seq.{take-append-add}
use Rattle.std.proofs.lemmas.Nat.{and_mask, pow-add, pow_pos, shl_whole}
use Rattle.std.proofs.Math.Arith.{mod-mul}
use Rattle.std.proofs.Math.Nat.{mod-lt}
use Rattle.std.proofs.Math.Pow.{pow_mono}
use Rattle.mg_model.specs.Keys.{short_key}
use Rattle.mg_model.proofs.Lists.{take-all}
use Rattle.mg_model.proofs.Sixteen.{sixteen, put-top}

put-below : (n b : ℕ) → b < 256 → sixteen (n * 256 + b) ≡ b ∷ take 15 (sixteen n)
put-below n b small =
    let e0 : (n * 256 + b) % 256 ≡ b = omega (arith, small) in
    let e1 : (n * 256 + b) / 256 ^ 1 % 256 ≡ n % 256 = omega (arith, small) in
    let e2 : (n * 256 + b) / 256 ^ 2 % 256 ≡ n / 256 ^ 1 % 256 = omega (arith, small) in
    let e3 : (n * 256 + b) / 256 ^ 3 % 256 ≡ n / 256 ^ 2 % 256 = omega (arith, small) in
    let e4 : (n * 256 + b) / 256 ^ 4 % 256 ≡ n / 256 ^ 3 % 256 = omega (arith, small) in
    let e5 : (n * 256 + b) / 256 ^ 5 % 256 ≡ n / 256 ^ 4 % 256 = omega (arith, small) in
    let e6 : (n * 256 + b) / 256 ^ 6 % 256 ≡ n / 256 ^ 5 % 256 = omega (arith, small) in
    let e7 : (n * 256 + b) / 256 ^ 7 % 256 ≡ n / 256 ^ 6 % 256 = omega (arith, small) in
    let e8 : (n * 256 + b) / 256 ^ 8 % 256 ≡ n / 256 ^ 7 % 256 = omega (arith, small) in
    let e9 : (n * 256 + b) / 256 ^ 9 % 256 ≡ n / 256 ^ 8 % 256 = omega (arith, small) in
    let e10 : (n * 256 + b) / 256 ^ 10 % 256 ≡ n / 256 ^ 9 % 256 = omega (arith, small) in
    let e11 : (n * 256 + b) / 256 ^ 11 % 256 ≡ n / 256 ^ 10 % 256 = omega (arith, small) in
    let e12 : (n * 256 + b) / 256 ^ 12 % 256 ≡ n / 256 ^ 11 % 256 = omega (arith, small) in
    let e13 : (n * 256 + b) / 256 ^ 13 % 256 ≡ n / 256 ^ 12 % 256 = omega (arith, small) in
    let e14 : (n * 256 + b) / 256 ^ 14 % 256 ≡ n / 256 ^ 13 % 256 = omega (arith, small) in
    let e15 : (n * 256 + b) / 256 ^ 15 % 256 ≡ n / 256 ^ 14 % 256 = omega (arith, small) in
    λ i. e0 i ∷ e1 i ∷ e2 i ∷ e3 i ∷ e4 i ∷ e5 i ∷ e6 i ∷ e7 i ∷ e8 i ∷ e9 i ∷ e10 i ∷ e11 i ∷ e12 i ∷ e13 i ∷ e14 i ∷ e15 i ∷ []

-- zeros behind at most fifteen bytes, one fewer
fill : (xs : List ℕ) (k : ℕ) → length xs ≡ k → k ≤ 15 → take 15 (xs ++ replicate (16 - k) 0) ≡ xs ++ replicate (15 - k) 0
fill xs k long few =
    let whole : 15 ≡ length xs + (15 - k) = omega (arith, long, few) in
    ap (λ m. take m (xs ++ replicate (16 - k) 0)) whole ∙ take-append-add xs (replicate (16 - k) 0) (15 - k)
    ∙ ap (λ l. xs ++ l) (take-replicate (15 - k) (16 - k) 0 (omega (arith, few)))

one-less : (m : ℕ) → suc m ≤ 16 → 15 - m ≡ 16 - suc m
one-less m few = omega (arith, few)

-- ---- a number that was read

-- what so many bytes from a place on are worth
abbrev worth : List ℕ → ℕ → ℕ → ℕ
worth bytes i zero = 0
worth bytes i (suc m) = worth bytes (suc i) m * 256 + slice_index bytes i

worth-bytes : (bytes : List ℕ) (i m : ℕ) → m ≤ 16 → i + m ≤ length bytes → ((j : ℕ) → slice_index bytes j < 256) →
    sixteen (worth bytes i m) ≡ take m (drop i bytes) ++ replicate (16 - m) 0
worth-bytes bytes i zero few within small = refl
worth-bytes bytes i (suc m) few within small =
    let next : i + 1 ≡ suc i = omega arith in
    let rest : drop i bytes ≡ slice_index bytes i ∷ drop (suc i) bytes = drop_more bytes i 0 (omega (arith, within)) ∙ ap (λ j. slice_index bytes i ∷ drop j bytes) next in
    let long : length (take m (drop (suc i) bytes)) ≡ m = length-take-le m (drop (suc i) bytes) (omega (arith, length-drop (suc i) bytes, within)) in
    put-below (worth bytes (suc i) m) (slice_index bytes i) (small i)
    ∙ ap (λ l. slice_index bytes i ∷ take 15 l) (worth-bytes bytes (suc i) m (omega (arith, few)) (omega (arith, within)) small)
    ∙ ap (λ l. slice_index bytes i ∷ l) (fill (take m (drop (suc i) bytes)) m long (omega (arith, few)))
    ∙ ap (λ z. slice_index bytes i ∷ take m (drop (suc i) bytes) ++ replicate z 0) (one-less m few)
    ∙ ap (λ l. take (suc m) l ++ replicate (16 - suc m) 0) (sym rest)

pub read-back : (bytes : List ℕ) (n : ℕ) → length bytes ≡ 16 → ((j : ℕ) → slice_index bytes j < 256) → n ≡ from_le_bytes w128 bytes → sixteen n ≡ bytes
read-back bytes n long small is =
    let same : n ≡ worth bytes 0 16 = omega (arith, is) in
    ap sixteen same ∙ worth-bytes bytes 0 16 (omega arith) (omega (arith, long)) small ∙ append-nil (take 16 bytes) ∙ take-all bytes 16 (omega (arith, long))

-- ---- the lowest bytes of a number

kept : (k n : ℕ) → k ≤ 16 → n < 2 ^ 128 → sixteen (n % 2 ^ (8 * k)) ≡ take k (sixteen n) ++ replicate (16 - k) 0
kept zero n few fits = let none : n % 2 ^ (8 * 0) ≡ 0 = omega arith in ap sixteen none
kept (suc k) n few fits =
    let eight : 8 * suc k ≡ 8 * k + 8 = omega arith in
    let power : 2 ^ (8 * suc k) ≡ 2 ^ (8 * k) * 256 = ap (λ e. 2 ^ e) eight ∙ pow-add 2 (8 * k) 8 in
    let same : n / 256 ≡ n / 256 + 0 * 2 ^ 120 = omega arith in
    let moved : sixteen (n / 256) ≡ drop 1 (sixteen n) ++ 0 ∷ [] = ap sixteen same ∙ put-top n 0 fits (omega arith) in
    let rest : take k (sixteen (n / 256)) ≡ take k (drop 1 (sixteen n)) = ap (take k) moved ∙ take-append-le k (drop 1 (sixteen n)) (0 ∷ []) (omega (arith, few)) in
    let long : length (take k (sixteen (n / 256))) ≡ k = length-take-le k (sixteen (n / 256)) (omega (arith, few)) in
    ap (λ p. sixteen (n % p)) power ∙ ap sixteen (mod-mul n (pow_pos (8 * k)) (omega arith)) ∙ put-below (n / 256 % 2 ^ (8 * k)) (n % 256) (omega arith)
    ∙ ap (λ l. n % 256 ∷ take 15 l) (kept k (n / 256) (omega (arith, few)) (omega (arith, fits)))
    ∙ ap (λ l. n % 256 ∷ l) (fill (take k (sixteen (n / 256))) k long (omega (arith, few)))
    ∙ ap (λ l. n % 256 ∷ l ++ replicate (15 - k) 0) rest
    ∙ ap (λ z. n % 256 ∷ take k (drop 1 (sixteen n)) ++ replicate z 0) (one-less k few)

first-key : (bytes : List ℕ) (n k : ℕ) → k ≤ 15 → n < 2 ^ 128 → sixteen n ≡ bytes → sixteen (n % 2 ^ (8 * k) * 256 + k) ≡ short_key (take k bytes)
first-key bytes n k few fits is =
    let long : length (take k (sixteen n)) ≡ k = length-take-le k (sixteen n) (omega (arith, few)) in
    put-below (n % 2 ^ (8 * k)) k (omega (arith, few)) ∙ ap (λ l. k ∷ take 15 l) (kept k n (omega (arith, few)) fits)
    ∙ ap (λ l. k ∷ l) (fill (take k (sixteen n)) k long few) ∙ ap (λ m. m ∷ take k (sixteen n) ++ replicate (15 - m) 0) (sym long) ∙ ap (λ l. short_key (take k l)) is

-- what is left of a number under a mask of so many bytes
pub masked : (n k : ℕ) → k ≤ 15 → bit_and n (1 * 2 ^ (8 * k) % 2 ^ 128 - 1) ≡ n % 2 ^ (8 * k)
masked n k few =
    let mask : 1 * 2 ^ (8 * k) % 2 ^ 128 ≡ 2 ^ (8 * k) = shl_whole 1 1 (8 * k) 128 (omega arith) (omega (arith, few)) ∙ one-of (2 ^ (8 * k)) in
    ap (λ m. bit_and n (m - 1)) mask ∙ and_mask n (8 * k)
  where
    one-of : (m : ℕ) → 1 * m ≡ m
    one-of m = omega arith

pub masked-small : (n k : ℕ) → k ≤ 15 → bit_and n (1 * 2 ^ (8 * k) % 2 ^ 128 - 1) < 2 ^ 120
masked-small n k few =
    let below : n % 2 ^ (8 * k) < 2 ^ (8 * k) = mod-lt n (pow_pos (8 * k)) in
    let eight : 8 * k ≤ 120 = omega (arith, few) in
    let most : 2 ^ (8 * k) ≤ 2 ^ 120 = pow_mono eight in
    omega (arith, masked n k few, below, most)

pub masked-key : (bytes : List ℕ) (n k : ℕ) → k ≤ 15 → n < 2 ^ 128 → sixteen n ≡ bytes →
    sixteen (bit_and n (1 * 2 ^ (8 * k) % 2 ^ 128 - 1) * 256 + k) ≡ short_key (take k bytes)
masked-key bytes n k few fits is = ap (λ m. sixteen (m * 256 + k)) (masked n k few) ∙ first-key bytes n k few fits is

-- the first sixteen bytes begin with a piece that is not longer
pub first-there : (bytes front piece : List ℕ) (len : ℕ) → take len bytes ≡ piece → len ≤ length bytes → length piece ≤ 16 → front ≡ take 16 bytes →
    take (length piece) front ≡ piece
first-there bytes front piece len is within few same =
    let long : length piece ≡ len = ap length (sym is) ∙ length-take-le len bytes within in
    ap (λ m. take m front) long ∙ ap (take len) same ∙ take-less len 16 bytes (omega (arith, long, few)) ∙ is
  where
    take-less : (m k : ℕ) (xs : List ℕ) → m ≤ k → take m (take k xs) ≡ take m xs
    take-less zero k xs h = refl
    take-less (suc m) zero xs h = absurd (omega arith)
    take-less (suc m) (suc k) [] h = refl
    take-less (suc m) (suc k) (x ∷ xs) h = ap (λ l. x ∷ l) (take-less m k xs (omega arith))
