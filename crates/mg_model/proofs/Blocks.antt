-- Pieces by entries of sixteen bytes.
use Rattle.std.proofs.Common.{◌≡◌, ℕ, zero, suc, ◌+◌, ◌<◌, ◌≤◌, ◌⊎◌, inl, inr, true, false, leb, List, [], ◌∷◌, ◌++◌, length, take, drop, map, get_or, slice_get, Some, refl, sym, ap, ◌∙◌, arith, length-take}
use Rattle.std.specs.List.{AllByRecursion}
use Rattle.std.proofs.lemmas.Bool.Decides.{leb_tells, nat_tests}
use Rattle.std.proofs.lemmas.Grind.{common_steps}
use Rattle.mg_defs.specs.Numbers.{four_at}
use Rattle.mg_model.specs.Blocks.{short_piece, long_piece, piece_of, IsPieceEntry}

pub piece-is_short : (long entry : List ℕ) → get_or entry 0 0 ≤ 15 → piece_of long entry ≡ short_piece entry
piece-is_short long entry h = grind (arith, nat_tests)

pub piece-is_long : (long entry : List ℕ) → 15 < get_or entry 0 0 → piece_of long entry ≡ long_piece long entry
piece-is_long long entry h = grind (arith, nat_tests)

-- an entry's piece has as many bytes as a byte can tell
pub piece-short : (size : ℕ) (long entry : List ℕ) → IsPieceEntry size entry → length (piece_of long entry) ≤ 255
piece-short size long entry is =
    let held = length-take (get_or entry 0 0) (drop 1 entry) in
    let told = length-take (get_or entry 0 0) (drop (four_at entry 1) long) in
    let byte = is.byte in
    grind (arith, nat_tests)

part-same : (n from : ℕ) (bytes more : List ℕ) → from + n ≤ length bytes → take n (drop from (bytes ++ more)) ≡ take n (drop from bytes)
part-same n from bytes more h = grind (arith, common_steps)

behind : (bytes piece : List ℕ) → take (length piece) (drop (length bytes) (bytes ++ piece)) ≡ piece
behind bytes piece = grind (arith, common_steps)

-- bytes behind those that are there change no piece
piece-same : (long more entry : List ℕ) → IsPieceEntry (length long) entry → piece_of (long ++ more) entry ≡ piece_of long entry
piece-same long more entry is =
    let same : 15 < get_or entry 0 0 → long_piece (long ++ more) entry ≡ long_piece long entry = λ h. part-same (get_or entry 0 0) (four_at entry 1) long more (is.within h) in
    by same (leb_tells (get_or entry 0 0) 15)
  where
    by : (15 < get_or entry 0 0 → long_piece (long ++ more) entry ≡ long_piece long entry) →
        ((leb (get_or entry 0 0) 15 ≡ true) × (get_or entry 0 0 ≤ 15)) ⊎ ((leb (get_or entry 0 0) 15 ≡ false) × (15 < get_or entry 0 0)) →
        piece_of (long ++ more) entry ≡ piece_of long entry
    by same (inl h) = piece-is_short (long ++ more) entry h.1 ∙ sym (piece-is_short long entry h.1)
    by same (inr h) = piece-is_long (long ++ more) entry h.1 ∙ same h.1 ∙ sym (piece-is_long long entry h.1)

pieces-same : (long more : List ℕ) (entries : List (List ℕ)) → AllByRecursion (IsPieceEntry (length long)) entries → map (piece_of (long ++ more)) entries ≡ map (piece_of long) entries
pieces-same long more [] all = refl
pieces-same long more (entry ∷ entries) all =
    let head = piece-same long more entry all.0 in
    let tail = pieces-same long more entries all.1 in
    λ i. head i ∷ tail i

map-more : (long entry : List ℕ) (entries : List (List ℕ)) → map (piece_of long) (entries ++ entry ∷ []) ≡ map (piece_of long) entries ++ piece_of long entry ∷ []
map-more long entry [] = refl
map-more long entry (first ∷ entries) = ap (λ t. piece_of long first ∷ t) (map-more long entry entries)

-- the entry of a piece behind so many bytes
pub record IsLong (size : ℕ) (entry piece : List ℕ) : Type 0 where
  pub count : get_or entry 0 0 ≡ length piece
  pub many : 15 < length piece
  pub byte : length piece ≤ 255
  pub place : four_at entry 1 ≡ size

-- one longer piece more
pub pieces-add_long : (long entry piece : List ℕ) (entries : List (List ℕ)) → AllByRecursion (IsPieceEntry (length long)) entries →
    IsLong (length long) entry piece → map (piece_of (long ++ piece)) (entries ++ entry ∷ []) ≡ map (piece_of long) entries ++ piece ∷ []
pieces-add_long long entry piece entries all t =
    let one : piece_of (long ++ piece) entry ≡ piece = piece-is_long (long ++ piece) entry (omega (arith, t.count, t.many))
    ∙ ap (λ n. take n (drop (four_at entry 1) (long ++ piece))) t.count ∙ ap (λ n. take (length piece) (drop n (long ++ piece))) t.place
    ∙ behind long piece in
    map-more (long ++ piece) entry entries ∙ ap (λ p. map (piece_of (long ++ piece)) entries ++ p ∷ []) one ∙ ap (λ ps. ps ++ piece ∷ []) (pieces-same long piece entries all)

pub length-pieces : (long : List ℕ) (entries : List (List ℕ)) → length (map (piece_of long) entries) ≡ length entries
length-pieces long [] = refl
length-pieces long (entry ∷ entries) = ap suc (length-pieces long entries)

pub pieces-short : (size : ℕ) (long : List ℕ) (entries : List (List ℕ)) → AllByRecursion (IsPieceEntry size) entries → AllByRecursion (λ (p : List ℕ). length p ≤ 255) (map (piece_of long) entries)
pieces-short size long [] all = tt
pieces-short size long (entry ∷ entries) all = (piece-short size long entry all.0, pieces-short size long entries all.1)

-- ---- the piece at a place

pub piece-there : (long : List ℕ) (entries : List (List ℕ)) (place : ℕ) → place < length entries → slice_get (map (piece_of long) entries) place ≡ Some (piece_of long (get_or entries place []))
piece-there long [] place low = absurd (omega arith)
piece-there long (entry ∷ entries) zero low = refl
piece-there long (entry ∷ entries) (suc place) low = piece-there long entries place (omega arith)

pub entry-is : (size : ℕ) (entries : List (List ℕ)) (place : ℕ) → AllByRecursion (IsPieceEntry size) entries → place < length entries → IsPieceEntry size (get_or entries place [])
entry-is size [] place all low = absurd (omega arith)
entry-is size (entry ∷ entries) zero all low = all.0
entry-is size (entry ∷ entries) (suc place) all low = entry-is size entries place all.1 (omega arith)
