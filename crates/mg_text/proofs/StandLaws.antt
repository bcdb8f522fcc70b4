-- Where the text of a collection stands: each document's place, bits, pieces and pages.
use Rattle.std.proofs.Common.{arith, inl, inr, ◌≡◌, ◌+◌, ◌-◌, ◌*◌, ◌^◌, ◌≤◌, ◌<◌, ◌==◌, if◌then◌else◌, ℕ, suc, zero, Bool, true, false, List, []}
use Rattle.std.proofs.Common.{◌∷◌, ◌++◌, length, take, drop, get_or, map, sum_by, Option, Some, None, IsSome, refl, sym, ◌∙◌, ap, subst, append_assoc, slice_get, take-append-drop}
use Rattle.std.specs.List.{flat_map, list_any, onto_first}
use Rattle.std.specs.Str.{bytes_eq}
use Rattle.std.proofs.lemmas.Option.{slice_get-get_or}
use Rattle.std.proofs.lemmas.Bool.{or_left, or_right, cases_Bool}
use Rattle.std.proofs.lemmas.List.Sums.{sum_by-take-le, sum_by_more}
use Rattle.std.proofs.Math.Seq.{take-append_seam, drop-append-add, take-length}
use Rattle.mg_dev.specs.Files.{Files, bytes_at}
use Rattle.mg_bits.specs.Feed.{told_at}
use Rattle.mg_bits.proofs.CallerLemmas.{drop_bits}
use Rattle.mg_defs.specs.declared.Stream.{Stream}
use Rattle.mg_defs.specs.declared.Stream.TheVariants.{Words, Others}
use Rattle.mg_defs.specs.Bits.{Bits, Begins, bits_of, digits, filled, to_byte, as_bytes, Shows}
use Rattle.mg_defs.specs.CodedText.{IsTextCode, StreamCode, TextCode, coded_doc, coded_size, place_after, place_bytes, places, text_part}
use Rattle.mg_defs.specs.Numbers.{eight, four}
use Rattle.mg_defs.specs.Parse.{Pair, parse}
use Rattle.mg_defs.specs.Sorted.{number_of}
use Rattle.mg_defs.specs.Split.{documents}
use Rattle.mg_defs.specs.Vocabulary.{all_pieces, piece_of_pair, pieces_in, sorted_pieces}
use Rattle.mg_defs.proofs.BitLaws.{bits_of_append}
use Rattle.mg_defs.proofs.CodedTextLaws.{bits-of_as_bytes, length-as_bytes, places-at, places-long, text-at, text-long}
use Rattle.mg_defs.proofs.FrontLaws.{begins_append}
use Rattle.mg_defs.proofs.ParseLaws.{parse_short}
use Rattle.mg_defs.proofs.SortedLaws.{has-sorted, number-found, same-refl}
use Rattle.mg_text.specs.Decoding.{IsIn, PairsIn}
use Rattle.mg_text.specs.Places.{IsPlaceAt, place_width}
use Rattle.mg_text.specs.Reading.{TextReading, TextStands}

-- ---- places

four_long : (n : ℕ) → length (four n) ≡ 4
unfolding four
four_long n = refl

eight_long : (n : ℕ) → length (eight n) ≡ 8
unfolding eight
eight_long n = refl

long_place : (narrow : Bool) (p : ℕ) → length (if narrow then four p else eight p) ≡ (if narrow then 4 else 8)
long_place true p = four_long p
long_place false p = eight_long p

pub place_long : (version p : ℕ) → length (place_bytes version p) ≡ place_width version
place_long version p = long_place (version == 1) p

-- pieces of one width in turn
piece_at : (f : ℕ → List ℕ) (w i : ℕ) (xs : List ℕ) → ((x : ℕ) → length (f x) ≡ w) → i < length xs → take w (drop (w * i) (flat_map f xs)) ≡ f (get_or xs i 0)
piece_at f w i [] long lt = absurd (omega arith)
piece_at f w zero (x ∷ xs) long lt =
    let none : w * 0 ≡ 0 = omega arith in
    ap (λ n. take w (drop n (f x ++ flat_map f xs))) none ∙ ap (λ n. take n (f x ++ flat_map f xs)) (sym (long x)) ∙ take-append_seam (f x) (flat_map f xs)
piece_at f w (suc i) (x ∷ xs) long lt =
    let more : w * suc i ≡ length (f x) + w * i = omega (arith, long x) in
    ap (λ n. take w (drop n (f x ++ flat_map f xs))) more ∙ ap (take w) (drop-append-add (f x) (flat_map f xs) (w * i)) ∙ piece_at f w i xs long (omega (arith, lt))

most_limit : (narrow : Bool) (p : ℕ) → p ≤ (if narrow then 2 ^ 32 - 1 else 2 ^ 60) → p < (if narrow then 2 ^ 32 else 2 ^ 64)
most_limit true p h = omega arith
most_limit false p h = omega arith

most_place : (narrow : Bool) (p : ℕ) → p ≤ (if narrow then 2 ^ 32 - 1 else 2 ^ 60) → p ≤ 2 ^ 60
most_place true p h = omega arith
most_place false p h = omega arith

-- a document begins within the text
pub place_within : (code : TextCode) (collection : List ℕ) (i : ℕ) → place_after code collection i ≤ length (text_part code collection)
place_within code collection i =
    let most = sum_by-take-le (coded_size code) (documents collection) i in
    let all : length (text_part code collection) ≡ sum_by (coded_size code) (documents collection) = text-long code collection ∙ ap (sum_by (coded_size code)) (take-length (documents collection)) in
    omega (arith, most, all)

pub place_next : (code : TextCode) (collection : List ℕ) (i : ℕ) → i < length (documents collection) →
    place_after code collection (i + 1) ≡ place_after code collection i + coded_size code (get_or (documents collection) i [])
place_next code collection i lt = sum_by_more (coded_size code) (documents collection) i [] lt

pub small_place : (r : TextReading) (files : Option Files) (collection : List ℕ) (i : ℕ) → TextStands r files collection → place_after r.code collection i ≤ 2 ^ 60
small_place r files collection i stands = most_place (r.version == 1) (place_after r.code collection i) (omega (arith, place_within r.code collection i, stands.size, stands.small))

pub place_stands : (r : TextReading) (files : Option Files) (collection : List ℕ) (i : ℕ) → TextStands r files collection → i < length (documents collection) →
    IsPlaceAt r.version i (place_after r.code collection i) (bytes_at files r.places.name)
place_stands r files collection i stands lt = record {
  fits = most_limit (r.version == 1) (place_after r.code collection i) (omega (arith, place_within r.code collection i, stands.size, stands.small));
  bytes_are =
      ap (λ b. take (place_width r.version) (drop (place_width r.version * i) b)) stands.places
      ∙ piece_at (place_bytes r.version) (place_width r.version) i (places r.code collection) (place_long r.version) (omega (arith, places-long r.code collection, lt))
      ∙ ap (place_bytes r.version) (places-at r.code collection i (omega (arith, lt)));
}

-- ---- bits

bits_here : (bits : Bits) (bytes : List ℕ) (at size : ℕ) → take size (drop at bytes) ≡ as_bytes bits → Begins bits (drop (8 * at) (bits_of bytes))
unfolding filled
bits_here bits bytes at size is =
    let split : drop at bytes ≡ as_bytes bits ++ drop size (drop at bytes) = sym (take-append-drop size (drop at bytes)) ∙ ap (λ l. l ++ drop size (drop at bytes)) is in
    let all : drop (8 * at) (bits_of bytes) ≡ bits ++ (digits (to_byte (length bits)) 0 ++ bits_of (drop size (drop at bytes))) =
    drop_bits at bytes ∙ ap bits_of split ∙ bits_of_append (as_bytes bits) (drop size (drop at bytes)) ∙ ap (λ l. l ++ bits_of (drop size (drop at bytes))) (bits-of_as_bytes bits)
    ∙ append_assoc bits (digits (to_byte (length bits)) 0) (bits_of (drop size (drop at bytes))) in
    subst (Begins bits) (sym all) (begins_append bits (digits (to_byte (length bits)) 0 ++ bits_of (drop size (drop at bytes))))

shown_here : (files : Option Files) (name : List ℕ) (place : ℕ) (bits : Bits) → IsSome files → Begins bits (drop place (bits_of (bytes_at files name))) → Shows (told_at files name) place bits
shown_here None name place bits told begins = absurd cc
shown_here (Some f) name place bits told begins = begins

pub doc_shown : (r : TextReading) (files : Option Files) (collection : List ℕ) (i : ℕ) → TextStands r files collection → i < length (documents collection) →
    Shows (told_at files r.text.name) (8 * place_after r.code collection i) (coded_doc r.code (get_or (documents collection) i []))
doc_shown r files collection i stands lt =
    let doc = get_or (documents collection) i [] in
    shown_here files r.text.name (8 * place_after r.code collection i) (coded_doc r.code doc) stands.told
    (subst (λ b. Begins (coded_doc r.code doc) (drop (8 * place_after r.code collection i) b)) (sym stands.text)
    (bits_here (coded_doc r.code doc) (text_part r.code collection) (place_after r.code collection i) (coded_size r.code doc) (text-at r.code collection i lt)))

-- the bits of a document end before the next place
pub doc_ends : (r : TextReading) (collection : List ℕ) (i : ℕ) → i < length (documents collection) →
    8 * place_after r.code collection i + length (coded_doc r.code (get_or (documents collection) i [])) ≤ 8 * place_after r.code collection (i + 1)
doc_ends r collection i lt = omega (arith, place_next r.code collection i lt, length-as_bytes (coded_doc r.code (get_or (documents collection) i [])))

-- ---- pieces

abbrev has : List (List ℕ) → List ℕ → Bool
has strings s = list_any (bytes_eq s) strings

get_some : (xs : List (List ℕ)) (i : ℕ) (s : List ℕ) → i < length xs → get_or xs i s ≡ s → slice_get xs i ≡ Some s
get_some xs i s lt is = slice_get-get_or xs i s lt ∙ ap Some is

piece_in : (code : StreamCode) (sorted : List (List ℕ)) (s : List ℕ) → code.pieces ≡ sorted → has sorted s ≡ true → IsIn code s
piece_in code sorted s is there =
    let found = number-found sorted s there in
    rw is (get_some sorted (number_of sorted s) s found.0 found.1)

has_left : (s : List ℕ) (a b : List (List ℕ)) → has a s ≡ true → has (a ++ b) s ≡ true
has_left s [] b h = absurd cc
has_left s (t ∷ a) b h = elim (cases_Bool (bytes_eq s t)) [
  | inl is ↦ or_left (bytes_eq s t) (has (a ++ b) s) is
  | inr isnt ↦ or_right (bytes_eq s t) (has (a ++ b) s) (has_left s a b (rw isnt at h))
]

has_right : (s : List ℕ) (a b : List (List ℕ)) → has b s ≡ true → has (a ++ b) s ≡ true
has_right s [] b h = h
has_right s (t ∷ a) b h = or_right (bytes_eq s t) (has (a ++ b) s) (has_right s a b h)

-- the pieces of a document are among those of all documents
has_doc : (kind : Stream) (s : List ℕ) (docs : List (List ℕ)) (i : ℕ) → i < length docs → has (pieces_in kind (get_or docs i [])) s ≡ true → has (flat_map (pieces_in kind) docs) s ≡ true
has_doc kind s [] i lt h = absurd (omega arith)
has_doc kind s (doc ∷ docs) zero lt h = has_left s (pieces_in kind doc) (flat_map (pieces_in kind) docs) h
has_doc kind s (doc ∷ docs) (suc i) lt h = has_right s (pieces_in kind doc) (flat_map (pieces_in kind) docs) (has_doc kind s docs i (omega (arith, lt)) h)

pairs_in : (code : TextCode) (words others : List (List ℕ)) (ps : List Pair) → code.words.pieces ≡ words → code.others.pieces ≡ others →
    ((s : List ℕ) → has (map (piece_of_pair Words) ps) s ≡ true → has words s ≡ true) → ((s : List ℕ) → has (map (piece_of_pair Others) ps) s ≡ true → has others s ≡ true) → PairsIn code ps
pairs_in code words others [] w o one two = tt
pairs_in code words others (p ∷ ps) w o one two = (
  record {
    word = piece_in code.words words p.word w (one p.word (or_left (bytes_eq p.word p.word) (has (map (piece_of_pair Words) ps) p.word) (same-refl p.word)));
    other = piece_in code.others others p.other o (two p.other (or_left (bytes_eq p.other p.other) (has (map (piece_of_pair Others) ps) p.other) (same-refl p.other)));
  },
  pairs_in code words others ps w o (λ s h. one s (or_right (bytes_eq s p.word) (has (map (piece_of_pair Words) ps) s) h))
      (λ s h. two s (or_right (bytes_eq s p.other) (has (map (piece_of_pair Others) ps) s) h)),
)

pub doc_pieces : (code : TextCode) (collection : List ℕ) (i : ℕ) → IsTextCode collection code → i < length (documents collection) → PairsIn code (parse (get_or (documents collection) i []))
doc_pieces code collection i is lt =
    pairs_in code (sorted_pieces Words collection) (sorted_pieces Others collection) (parse (get_or (documents collection) i [])) is.0.pieces is.1.pieces
    (λ s h. has-sorted (all_pieces Words collection) s ∙ has_doc Words s (documents collection) i lt h)
    (λ s h. has-sorted (all_pieces Others collection) s ∙ has_doc Others s (documents collection) i lt h)

-- ---- sizes

onto_short : (b n : ℕ) (docs : List (List ℕ)) (i : ℕ) → ((k : ℕ) → length (get_or docs k []) ≤ n) → length (get_or (onto_first b docs) i []) ≤ suc n
onto_short b n [] zero h = omega arith
onto_short b n [] (suc i) h = omega arith
onto_short b n (d ∷ docs) zero h = omega (arith, h 0)
onto_short b n (d ∷ docs) (suc i) h = omega (arith, h (suc i))

closed_short : (n : ℕ) (docs : List (List ℕ)) (i : ℕ) → ((k : ℕ) → length (get_or docs k []) ≤ n) → length (get_or ([] ∷ docs) i []) ≤ suc n
closed_short n docs zero h = omega arith
closed_short n docs (suc i) h = omega (arith, h i)

by_byte : (closes : Bool) (b n : ℕ) (docs : List (List ℕ)) (i : ℕ) → ((k : ℕ) → length (get_or docs k []) ≤ n) → length (get_or (if closes then [] ∷ docs else onto_first b docs) i []) ≤ suc n
by_byte true b n docs i h = closed_short n docs i h
by_byte false b n docs i h = onto_short b n docs i h

pub doc_short : (collection : List ℕ) (i : ℕ) → length (get_or (documents collection) i []) ≤ length collection
doc_short [] i = omega arith
doc_short (b ∷ bytes) i = by_byte (b == 2) b (length bytes) (documents bytes) i (doc_short bytes)

pub few_pairs : (collection : List ℕ) (i : ℕ) → length collection < 2 ^ 32 → length (parse (get_or (documents collection) i [])) < 2 ^ 32
few_pairs collection i few = omega (arith, parse_short (get_or (documents collection) i []), doc_short collection i, few)
