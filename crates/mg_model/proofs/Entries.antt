-- Pieces and their lengths as entries of a part.
use Rattle.std.proofs.Common.{◌≡◌, ◌≢◌, ℕ, zero, suc, ◌+◌, ◌-◌, ◌%◌, ◌<◌, ◌≤◌, ◌==◌, Bool, true, false, cond, List, [], ◌∷◌, ◌++◌, length, take, drop, get_or, slice_get, Some, refl, sym, ap, ◌∙◌, arith, length-append, length-take, length-drop, add-one}
use Rattle.std.proofs.lemmas.Bool.Decides.{nat_tests}
use Rattle.mg_defs.specs.CodedText.{StreamCode, piece_entries}
use Rattle.mg_defs.specs.Front.{Entry, entry_bytes, front, front_from, last_string, shared}
use Rattle.mg_defs.proofs.EntryLaws.{front_more}
use Rattle.mg_defs.proofs.FrontParts.{last_taken}
use Rattle.mg_model.specs.Sizes.{entry_size, first_sizes}
use Rattle.mg_model.proofs.Lists.{take-there}

abbrev pub code : List (List ℕ) → List ℕ → StreamCode
code pieces lengths = record { pieces = pieces; lengths = lengths }

abbrev pub entry : List ℕ → ℕ → Entry
entry piece bits = record { string = piece; field = bits ∷ [] }

-- one piece more
pub entries-push : (pieces : List (List ℕ)) (lengths : List ℕ) (piece : List ℕ) (bits : ℕ) → length lengths ≡ length pieces →
    piece_entries (code (pieces ++ piece ∷ []) (lengths ++ bits ∷ [])) ≡ piece_entries (code pieces lengths) ++ entry piece bits ∷ []
entries-push [] [] piece bits e = refl
entries-push [] (l ∷ lengths) piece bits e = absurd (omega (arith, e))
entries-push (p ∷ pieces) [] piece bits e = absurd (omega (arith, e))
entries-push (p ∷ pieces) (l ∷ lengths) piece bits e = ap (λ t. entry p l ∷ t) (entries-push pieces lengths piece bits (omega (arith, e)))

pub entries-long : (pieces : List (List ℕ)) (lengths : List ℕ) → length lengths ≡ length pieces → length (piece_entries (code pieces lengths)) ≡ length pieces
entries-long [] lengths e = refl
entries-long (p ∷ pieces) [] e = absurd (omega (arith, e))
entries-long (p ∷ pieces) (l ∷ lengths) e = ap suc (entries-long pieces lengths (omega (arith, e)))

pub entry-there : (pieces : List (List ℕ)) (lengths : List ℕ) (i : ℕ) → length lengths ≡ length pieces → i < length pieces →
    slice_get (piece_entries (code pieces lengths)) i ≡ Some (entry (get_or pieces i []) (get_or lengths i 0))
entry-there [] lengths i e l = absurd (omega arith)
entry-there (p ∷ pieces) [] i e l = absurd (omega (arith, e))
entry-there (p ∷ pieces) (b ∷ lengths) zero e l = refl
entry-there (p ∷ pieces) (b ∷ lengths) (suc i) e l = entry-there pieces lengths i (omega (arith, e)) (omega arith)

-- ---- how many bytes the first entries take

last-before : (es : List Entry) (n : ℕ) (e : Entry) → n % 4 ≢ 0 → slice_get es (n - 1) ≡ Some e → last_string [] (take n es) ≡ e.string
last-before es n e some there = last_taken [] es (n - 1) n e (omega (arith, some)) there

size-is : (pieces : List (List ℕ)) (lengths : List ℕ) (n : ℕ) → length lengths ≡ length pieces → n < length pieces →
    length (entry_bytes n (last_string [] (take n (piece_entries (code pieces lengths)))) (entry (get_or pieces n []) (get_or lengths n 0))) ≡ entry_size pieces n
unfolding entry_bytes
size-is pieces lengths n e l = by (n % 4 == 0) refl
  where
    piece : List ℕ
    piece = get_or pieces n []

    es : List Entry
    es = piece_entries (code pieces lengths)

    by : (b : Bool) → (n % 4 == 0) ≡ b →
        length (cond b (length piece ∷ (piece ++ get_or lengths n 0 ∷ [])) (shared (last_string [] (take n es)) piece ∷
        (length piece - shared (last_string [] (take n es)) piece) ∷ (drop (shared (last_string [] (take n es)) piece) piece ++ get_or lengths n 0 ∷ [])))
        ≡ cond b (length piece + 2) (length piece - shared (get_or pieces (n - 1) []) piece + 3)
    by true whole = omega (arith, length-append piece (get_or lengths n 0 ∷ []))
    by false cut =
        let some : n % 4 ≢ 0 = grind (arith, nat_tests) in
        let last : last_string [] (take n es) ≡ get_or pieces (n - 1) [] = last-before es n (entry (get_or pieces (n - 1) []) (get_or lengths (n - 1) 0)) some
        (entry-there pieces lengths (n - 1) e (omega arith)) in
        let k = shared (last_string [] (take n es)) piece in
        omega (
          arith,
          length-append (drop (shared (last_string [] (take n es)) piece) piece) (get_or lengths n 0 ∷ []),
          length-drop (shared (last_string [] (take n es)) piece) piece,
          ap (λ x. shared x piece) last,
        )

pub sizes-are : (pieces : List (List ℕ)) (lengths : List ℕ) (n : ℕ) → length lengths ≡ length pieces → n ≤ length pieces →
    first_sizes pieces n ≡ length (front (take n (piece_entries (code pieces lengths))))
unfolding front_from
sizes-are pieces lengths zero e l = refl
sizes-are pieces lengths (suc n) e l =
    let es = piece_entries (code pieces lengths) in
    let one = entry (get_or pieces n []) (get_or lengths n 0) in
    let within : n < length pieces = omega arith in
    let long : length (take n (piece_entries (code pieces lengths))) ≡ n = omega (arith, length-take n (piece_entries (code pieces lengths)), entries-long pieces lengths e) in
    let step : take (suc n) (piece_entries (code pieces lengths)) ≡ take n (piece_entries (code pieces lengths))
    ++ entry (get_or pieces n []) (get_or lengths n 0) ∷ [] = ap (λ m. take m es) (sym (add-one n))
    ∙ take-there es n one (entry-there pieces lengths n e within) in
    let size = size-is pieces lengths n e within in
    let bytes : length (front (take (suc n) (piece_entries (code pieces lengths)))) ≡ length (front (take n (piece_entries (code pieces lengths)))) + entry_size pieces n =
    ap (λ t. length (front t)) step ∙ ap length (front_more (take n es) one) ∙ length-append (front (take n es)) (entry_bytes (length (take n es)) (last_string [] (take n es)) one)
    ∙ ap (λ m. length (front (take n es)) + length (entry_bytes m (last_string [] (take n es)) one)) long ∙ ap (λ m. length (front (take n es)) + m) size in
    ap (λ m. m + entry_size pieces n) (sizes-are pieces lengths n e (omega arith)) ∙ sym bytes
