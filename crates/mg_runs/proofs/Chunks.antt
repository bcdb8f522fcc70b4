-- Lists in chunks of one size, and bytes in chunks of 8.
use Rattle.std.proofs.Common.{◌≡◌, ℕ, zero, suc, ◌+◌, ◌-◌, ◌*◌, ◌<◌, ◌≤◌, ◌^◌, List, [], ◌∷◌, ◌++◌, length, refl, sym, ap, ◌∙◌, append-nil, arith, take, drop, map}
use Rattle.std.proofs.lemmas.Grind.{common_steps}
use Rattle.std.proofs.lemmas.List.{drop-take, drop-drop, drop_all, length-map, map-append, take-take, take_all}
use Rattle.std.proofs.lemmas.Slice.{take-put_mid_below}
use Rattle.std.proofs.lemmas.Nat.{from_be_bytes-to_be_bytes_4}
use Rattle.std.specs.Simd.{first_chunks}
use borrow.Rule.Slice.PartMut.{put_mid}
use Rattle.mg_defs.specs.declared.TermPosting.{TermPosting}
use Rattle.mg_runs.specs.Bytes.{number_in, entry_in, bytes_of, entries_in}

-- ---- chunks of one size

pub length-chunks : {X : Type 0} (n k : ℕ) (xs : List X) → length (first_chunks n k xs) ≡ k
length-chunks n zero xs = refl
length-chunks n (suc k) xs = ap (λ m. suc m) (length-chunks n k (drop n xs))

pub chunks-more : {X : Type 0} (n k : ℕ) (xs : List X) → first_chunks n (suc k) xs ≡ first_chunks n k xs ++ take n (drop (k * n) xs) ∷ []
chunks-more n zero xs = let z : zero * n ≡ zero = omega arith in ap (λ t. take n (drop t xs) ∷ []) (sym z)
chunks-more n (suc k) xs =
    let one : n + k * n ≡ suc k * n = omega arith in
    let e : drop (k * n) (drop n xs) ≡ drop (suc k * n) xs = drop-drop (k * n) n xs ∙ ap (λ m. drop m xs) one in
    ap (λ t. take n xs ∷ t) (chunks-more n k (drop n xs) ∙ ap (λ t. first_chunks n k (drop n xs) ++ take n t ∷ []) e)

take-front : {X : Type 0} (m n : ℕ) (xs : List X) → take m (take (m + n) xs) ≡ take m xs
take-front m n xs = take-take m (m + n) xs (omega arith)

-- lists that begin alike have the same chunks there
pub chunks-same : {X : Type 0} (n k : ℕ) (xs ys : List X) → take (k * n) xs ≡ take (k * n) ys → first_chunks n k xs ≡ first_chunks n k ys
chunks-same n zero xs ys e = refl
chunks-same n (suc k) xs ys e =
    let one : suc k * n ≡ n + k * n = omega arith in
    let a : take n (take (suc k * n) xs) ≡ take n xs = ap (λ m. take n (take m xs)) one ∙ take-front n (k * n) xs in
    let b : take n (take (suc k * n) ys) ≡ take n ys = ap (λ m. take n (take m ys)) one ∙ take-front n (k * n) ys in
    let c : drop n (take (suc k * n) xs) ≡ take (k * n) (drop n xs) = ap (λ m. drop n (take m xs)) one ∙ drop-take n (k * n) xs in
    let d : drop n (take (suc k * n) ys) ≡ take (k * n) (drop n ys) = ap (λ m. drop n (take m ys)) one ∙ drop-take n (k * n) ys in
    let f : take n xs ≡ take n ys = sym a ∙ ap (λ t. take n t) e ∙ b in
    let g : take (k * n) (drop n xs) ≡ take (k * n) (drop n ys) = sym c ∙ ap (λ t. drop n t) e ∙ d in
    let r = chunks-same n k (drop n xs) (drop n ys) g in
    cc

-- a vector whose bytes were written as a slice has these bytes
pub write_back : (size : ℕ) (xs ys : List ℕ) → length ys ≡ length xs → length xs ≡ size → take size (ys ++ drop (length ys) xs) ≡ ys
write_back size xs ys same whole =
    ap (λ t. take size (ys ++ t)) (drop_all (length ys) xs (omega arith)) ∙ ap (λ t. take size t) (append-nil ys) ∙ take_all size ys (omega arith)

-- ---- entries of 8 bytes

pub entry-of-bytes : (t d : ℕ) → t < 2 ^ 32 → d < 2 ^ 32 → entry_in (bytes_of t d) ≡ record { term = t; doc = d; count = 1 }
unfolding number_in bytes_of
entry-of-bytes t d ht hd =
    let mk : ℕ → ℕ → TermPosting = λ a b. record { term = a; doc = b; count = 1 } in
    let p = from_be_bytes-to_be_bytes_4 t ht in
    let q = from_be_bytes-to_be_bytes_4 d hd in
    ap (λ a. mk a (number_in 4 (bytes_of t d))) p ∙ ap (λ b. mk t b) q

pub length-bytes_of : (t d : ℕ) → length (bytes_of t d) ≡ 8
unfolding bytes_of
length-bytes_of t d = refl

front-put : (a b k : ℕ) (xs ys : List ℕ) → b ≡ a → a + k ≤ length xs → length ys ≡ k → take b (put_mid a k xs ys) ≡ take b xs
front-put a b k xs ys e h w = take-put_mid_below a k xs ys b (omega arith) (omega arith)

pub here-put : (a b k : ℕ) (xs ys : List ℕ) → b ≡ a → a + k ≤ length xs → length ys ≡ k → take k (drop b (put_mid a k xs ys)) ≡ ys
here-put a b k xs ys e h w = grind (arith, common_steps)

pub entries-put : (count : ℕ) (xs made : List ℕ) → 8 * count + 8 ≤ length xs → length made ≡ 8 →
    entries_in (count + 1) (put_mid (8 * count) (8 * count + 8 - 8 * count) xs made) ≡ entries_in count xs ++ entry_in made ∷ []
entries-put count xs made room whole =
    let ys : List ℕ = put_mid (8 * count) (8 * count + 8 - 8 * count) xs made in
    let size : 8 * count + 8 - 8 * count ≡ 8 = omega arith in
    let put : put_mid (8 * count) 8 xs made ≡ ys = ap (λ k. put_mid (8 * count) k xs made) (sym size) in
    let front : take (count * 8) ys ≡ take (count * 8) xs = ap (λ t. take (count * 8) t) (sym put) ∙ front-put (8 * count) (count * 8) 8 xs made (omega arith) room whole in
    let here : take 8 (drop (count * 8) ys) ≡ made = ap (λ t. take 8 (drop (count * 8) t)) (sym put) ∙ here-put (8 * count) (count * 8) 8 xs made (omega arith) room whole in
    let one : count + 1 ≡ suc count = omega arith in
    ap (λ n. entries_in n ys) one
    ∙ ap (λ t. map entry_in t) (chunks-more 8 count ys ∙ ap (λ t. t ++ take 8 (drop (count * 8) ys) ∷ []) (chunks-same 8 count ys xs front) ∙ ap (λ t. first_chunks 8 count xs ++ t ∷ []) here)
    ∙ map-append entry_in (first_chunks 8 count xs) (made ∷ [])

-- where there are no chunks, none were asked for
pub no_chunks : (k : ℕ) (xs : List ℕ) → first_chunks 64 k xs ≡ [] → k ≡ 0
no_chunks k xs e = sym (length-chunks 64 k xs) ∙ ap (λ t. length t) e

pub length_entries : (count : ℕ) (bytes : List ℕ) → length (entries_in count bytes) ≡ count
length_entries count bytes = length-map (first_chunks 8 count bytes) entry_in ∙ length-chunks 8 count bytes

-- where there are no entries, none are counted, and none are found in other bytes
pub no_entries : (count : ℕ) (bytes : List ℕ) → entries_in count bytes ≡ [] → count ≡ 0
no_entries count bytes e = sym (length_entries count bytes) ∙ ap (λ t. length t) e

pub still_none : (count : ℕ) (bytes others : List ℕ) → entries_in count bytes ≡ [] → entries_in count others ≡ []
still_none count bytes others e = ap (λ n. entries_in n others) (no_entries count bytes e)
