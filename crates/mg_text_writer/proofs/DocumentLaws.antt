-- The documents of a collection as a writer is handed them.
use Rattle.std.proofs.Common.{arith, ◌≡◌, ◌+◌, ◌*◌, ◌/◌, ◌%◌, ◌==◌, ◌≤◌, ◌++◌, ℕ, zero, suc, List, [], ◌∷◌, length, map, refl, sym, ◌∙◌, ap, append_assoc, append-nil, if◌then◌else◌}
use Rattle.std.specs.List.{flat_map}
use Rattle.std.specs.declared.option.Option.{Option}
use Rattle.std.proofs.lemmas.List.Folds.{flat_map-map}
use Rattle.mg_dev.specs.Files.{Files, bytes_at}
use Rattle.mg_dev.specs.Names.{full_name}
use Rattle.mg_dev.specs.declared.part.Part.TheVariants.{Text}
use Rattle.mg_defs.specs.declared.Stream.{Stream}
use Rattle.mg_defs.specs.declared.Stream.TheVariants.{Words, Others}
use Rattle.mg_defs.specs.Bits.{Bits, bits_of, as_bytes}
use Rattle.mg_defs.specs.Codes.{gamma}
use Rattle.mg_defs.specs.CodedText.{TextCode, IsTextCode, coded_pair, coded_doc, coded_size, running, places_part, text_part}
use Rattle.mg_defs.specs.Numbers.{eight}
use Rattle.mg_defs.specs.Marks.{piece_bits}
use Rattle.mg_defs.specs.Parse.{Pair, parse}
use Rattle.mg_defs.specs.Pieces.{pieces, other_kind}
use Rattle.mg_defs.specs.Split.{documents}
use Rattle.mg_defs.specs.TextBits.{text_bits}
use Rattle.mg_defs.proofs.BitLaws.{length_bits_of}
use Rattle.mg_defs.proofs.TextBitsLaws.{text-within}
use Rattle.mg_text_writer.specs.Documents.{TextHolds, coded_docs, pieces_bits}
use Rattle.mg_text_writer.specs.Writing.{DocumentsStand, text_bytes, sizes, turn}

-- ---- pieces in turn

pairs_bits : (code : TextCode) (pairs : List Pair) → pieces_bits code Words (flat_map (λ (p : Pair). p.word ∷ p.other ∷ []) pairs) ≡ flat_map (coded_pair code) pairs
pairs_bits code [] = refl
pairs_bits code (p ∷ pairs) =
    let word : Bits = piece_bits code Words p.word in
    let other : Bits = piece_bits code Others p.other in
    ap (λ l. word ++ (other ++ l)) (pairs_bits code pairs) ∙ sym (append_assoc word other (flat_map (coded_pair code) pairs))

pub pieces_are_doc : (code : TextCode) (doc : List ℕ) → gamma (length (parse doc) + 1) ++ pieces_bits code Words (pieces doc) ≡ coded_doc code doc
pieces_are_doc code doc = ap (λ l. gamma (length (parse doc) + 1) ++ l) (pairs_bits code (parse doc))

pairs_count : (pairs : List Pair) → length (flat_map (λ (p : Pair). p.word ∷ p.other ∷ []) pairs) ≡ 2 * length pairs
pairs_count [] = refl
pairs_count (p ∷ pairs) = omega (arith, pairs_count pairs)

pub pieces_count : (doc : List ℕ) → length (pieces doc) ≡ 2 * length (parse doc)
pieces_count doc = pairs_count (parse doc)

-- the kind of the piece after so many, the first of which is of a kind
kind_after : Stream → ℕ → Stream
kind_after kind zero = kind
kind_after kind (suc n) = kind_after (other_kind kind) n

one_more : (code : TextCode) (kind : Stream) (before : List (List ℕ)) (piece : List ℕ) → pieces_bits code kind (before ++ piece ∷ [])
    ≡ pieces_bits code kind before ++ piece_bits code (kind_after kind (length before)) piece
unfolding kind_after
one_more code kind [] piece = append-nil (piece_bits code kind piece)
one_more code kind (p ∷ before) piece =
    let first : Bits = piece_bits code kind p in
    ap (λ l. first ++ l) (one_more code (other_kind kind) before piece)
    ∙ sym (append_assoc first (pieces_bits code (other_kind kind) before) (piece_bits code (kind_after (other_kind kind) (length before)) piece))

turn_of : (left : ℕ) (half : ℕ) → left % 2 ≡ half → turn left ≡ (if half == 0 then Words else Others)
turn_of left half is = ap (λ (r : ℕ). if r == 0 then Words else Others) is

pub same_turn : (left put pairs : ℕ) → left + put ≡ 2 * pairs → turn left ≡ turn put
same_turn left put pairs is = turn_of left (put % 2) (omega (arith, is))

turn_next : (n : ℕ) → turn (suc (suc n)) ≡ turn n
turn_next n = same_turn (suc (suc n)) n (suc n) (omega arith)

kinds : (n : ℕ) → kind_after Words n ≡ turn n
unfolding kind_after
kinds zero = refl
kinds (suc zero) = refl
kinds (suc (suc n)) = kinds n ∙ sym (turn_next n)

pub next_piece : (code : TextCode) (before : List (List ℕ)) (piece : List ℕ) → pieces_bits code Words (before ++ piece ∷ []) ≡ pieces_bits code Words before
    ++ piece_bits code (turn (length before)) piece
next_piece code before piece = one_more code Words before piece ∙ ap (λ k. pieces_bits code Words before ++ piece_bits code k piece) (kinds (length before))

-- ---- the parts

pub text_is : (code : TextCode) (collection : List ℕ) → text_bytes (coded_docs code collection) ≡ text_part code collection
text_is code collection = flat_map-map as_bytes (coded_doc code) (documents collection)

sizes_are : (code : TextCode) (docs : List (List ℕ)) → sizes (map (coded_doc code) docs) ≡ map (coded_size code) docs
sizes_are code [] = refl
sizes_are code (doc ∷ docs) = ap (λ l. coded_size code doc ∷ l) (sizes_are code docs)

places_are : (code : TextCode) (collection : List ℕ) → flat_map eight (running 0 (sizes (coded_docs code collection))) ≡ places_part 2 code collection
places_are code collection = ap (λ l. flat_map eight (running 0 l)) (sizes_are code (documents collection))

-- bytes of the same bits are as many
same_long : (a b : List ℕ) → bits_of a ≡ bits_of b → length a ≡ length b
same_long a b same = omega (arith, length_bits_of a, length_bits_of b, ap length same)

pub text_holds : (base : List ℕ) (files : Option Files) (code : TextCode) (collection : List ℕ) → DocumentsStand base files (coded_docs code collection) → TextHolds base files code collection
text_holds base files code collection stands =
    let same : bits_of (bytes_at files (full_name base Text)) ≡ bits_of (text_part code collection) = stands.text ∙ ap bits_of (text_is code collection) in
    record {
      text = same;
      size = same_long (bytes_at files (full_name base Text)) (text_part code collection) same;
      places = stands.places ∙ places_are code collection;
    }

pub text_within : (base : List ℕ) (files : Option Files) (code : TextCode) (collection : List ℕ) → IsTextCode collection code →
    DocumentsStand base files (coded_docs code collection) → length (bytes_at files (full_name base Text))
    ≤ text_bits collection / 8 + length (documents collection)
text_within base files code collection is stands = omega (arith, (text_holds base files code collection stands).size, text-within code collection is)
