-- Documents as bits: the number of pairs plus 1, and then the codewords of words and others in turn.
use Rattle.std.specs.Prelude.{◌≡◌, ℕ, ◌+◌, ◌*◌, ◌-◌, ◌==◌, if◌then◌else◌, List, [], ◌∷◌, ◌++◌, length, map, take, drop, get_or, sum_by}
use Rattle.std.specs.List.{flat_map, zip}
use Rattle.mg_defs.specs.declared.Stream.{Stream}
use Rattle.mg_defs.specs.declared.Stream.TheVariants.{Words, Others}
use Rattle.mg_defs.specs.Split.{documents}
use Rattle.mg_defs.specs.Parse.{Pair, parse}
use Rattle.mg_defs.specs.Sorted.{number_of}
use Rattle.mg_defs.specs.Bits.{Bits, as_bytes}
use Rattle.mg_defs.specs.Codes.{gamma}
use Rattle.mg_defs.specs.Canon.{AreGood, codeword}
use Rattle.mg_defs.specs.Cost.{huffman_cost, cost_of}
use Rattle.mg_defs.specs.Front.{Entry, front}
use Rattle.mg_defs.specs.Numbers.{four, eight}
use Rattle.mg_defs.specs.Vocabulary.{sorted_pieces, piece_counts}

-- ---- the code of a stream

-- a stream's pieces in the order of their bytes, and the length of the codeword of each
pub record StreamCode : Type 0 where
  pub pieces : List (List ℕ)
  pub lengths : List ℕ

-- the codeword of a piece: that of its number
abbrev pub codeword_of : StreamCode → List ℕ → Bits
codeword_of code piece = codeword code.lengths (number_of code.pieces piece)

-- The lengths are those of a code of Huffman's cost for pieces of these counts.
pub record IsHuffman (counts lengths : List ℕ) : Type 0 where
  pub each : length lengths ≡ length counts
  pub good : AreGood lengths
  pub cost : cost_of counts lengths ≡ huffman_cost counts

-- The code is one for the stream of a collection.
pub record IsCodeOf (kind : Stream) (collection : List ℕ) (code : StreamCode) : Type 0 where
  pub pieces : code.pieces ≡ sorted_pieces kind collection
  pub lengths : IsHuffman (piece_counts kind collection) code.lengths

-- each piece with the length of its codeword, a field of one byte
abbrev pub piece_entries : StreamCode → List Entry
piece_entries code = map (λ e. record { string = e.0; field = e.1 ∷ [] }) (zip code.pieces code.lengths)

-- the bytes of the part of a stream's pieces
abbrev pub pieces_part : StreamCode → List ℕ
pieces_part code = front (piece_entries code)

-- the codes of both streams
pub record TextCode : Type 0 where
  pub words : StreamCode
  pub others : StreamCode

abbrev pub IsTextCode : List ℕ → TextCode → Type 0
IsTextCode collection code = IsCodeOf Words collection code.words × IsCodeOf Others collection code.others

-- ---- documents

abbrev pub coded_pair : TextCode → Pair → Bits
coded_pair code p = codeword_of code.words p.word ++ codeword_of code.others p.other

-- the bits of a document
abbrev pub coded_doc : TextCode → List ℕ → Bits
coded_doc code doc = gamma (length (parse doc) + 1) ++ flat_map (coded_pair code) (parse doc)

-- its bytes: the bits, and zero-bits up to a byte
abbrev pub coded_bytes : TextCode → List ℕ → List ℕ
coded_bytes code doc = as_bytes (coded_doc code doc)

-- the documents in order, each from a byte on
abbrev pub text_part : TextCode → List ℕ → List ℕ
text_part code collection = flat_map (λ doc. as_bytes (coded_doc code doc)) (documents collection)

-- how many bits all documents have
abbrev pub coded_bits : TextCode → List ℕ → ℕ
coded_bits code collection = sum_by (λ doc. length (coded_doc code doc)) (documents collection)

-- ---- places

-- how many bytes a document has
abbrev pub coded_size : TextCode → List ℕ → ℕ
coded_size code doc = length (as_bytes (coded_doc code doc))

-- the byte after the first d documents
abbrev pub place_after : TextCode → List ℕ → ℕ → ℕ
place_after code collection d = sum_by (coded_size code) (take d (documents collection))

-- running sums: the first number, and that with one more size each
abbrev pub running : ℕ → List ℕ → List ℕ
running at [] = at ∷ []
running at (size ∷ sizes) = at ∷ running (at + size) sizes

-- where each document begins, and last the size of the text
abbrev pub places : TextCode → List ℕ → List ℕ
places code collection = running 0 (map (coded_size code) (documents collection))

-- one of these: where the document after the first d begins
abbrev pub place_at : TextCode → List ℕ → ℕ → ℕ
place_at code collection d = get_or (places code collection) d 0

-- the bytes of the document after the first d stand in the text from its place on
abbrev pub StandsInText : TextCode → List ℕ → ℕ → Type 0
StandsInText code collection d =
    let doc = get_or (documents collection) d [] in
    take (coded_size code doc) (drop (place_after code collection d) (text_part code collection)) ≡ coded_bytes code doc

-- a place in the bytes of a version: 4 in version 1, 8 in version 2
abbrev pub place_bytes : ℕ → ℕ → List ℕ
place_bytes version place = if version == 1 then four place else eight place

abbrev pub places_part : ℕ → TextCode → List ℕ → List ℕ
places_part version code collection = flat_map (place_bytes version) (places code collection)

-- the bits of the text from a document's first to the one after its last, document d counted from 1
pub record BitRange : Type 0 where
  pub from : ℕ
  pub to : ℕ

abbrev pub doc_range : TextCode → List ℕ → ℕ → BitRange
doc_range code collection d = record {
  from = 8 * place_after code collection (d - 1);
  to = 8 * place_after code collection d;
}
