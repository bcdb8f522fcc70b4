-- A document coded anew, and how often each piece of a code comes on the way.
use Rattle.std.specs.Prelude.{◌≡◌, ℕ, ◌+◌, ◌*◌, ◌<◌, ◌≤◌, ◌^◌, ◌++◌, List, [], ◌∷◌, length, map, sum, All, Contains, Ok, Err, None, Some}
use Rattle.std.specs.List.{AllByRecursion, flat_map}
use Rattle.std.specs.Option.{IsSome, is_some}
use Rattle.std.specs.declared.option.Option.{Option}
use Rattle.std.specs.declared.result.Result.{Result}
use Rattle.mg_dev.specs.Files.{Files, bytes_at}
use Rattle.mg_dev.specs.Names.{full_name}
use Rattle.mg_dev.specs.declared.part.Part.TheVariants as part
use Rattle.mg_defs.specs.declared.Stream.{Stream}
use Rattle.mg_defs.specs.declared.Stream.TheVariants.{Words, Others}
use Rattle.mg_defs.specs.Bits.{Bits, as_bytes}
use Rattle.mg_defs.specs.CodedText.{StreamCode, TextCode, codeword_of, coded_doc, coded_pair}
use Rattle.mg_defs.specs.Cost.{cost_of, huffman_cost}
use Rattle.mg_defs.specs.Marks.{code_of}
use Rattle.mg_defs.specs.Means.{HasCodewords, IsCodable, IsModel}
use Rattle.mg_defs.specs.Parse.{Pair}
use Rattle.mg_defs.specs.Vocabulary.{count_in, piece_of_pair, pieces_in}
use Rattle.mg_text_writer.specs.Writing.{IsOnText, PutOne, TextWriting, text_bytes}
use Rattle.mg_check_parts.specs.declared.uses.Uses.{Uses}

-- ---- counts by symbol

-- how often each piece of a code comes among pieces
abbrev pub AreCounts : StreamCode → List (List ℕ) → List ℕ → Type 0
AreCounts code pieces counts = counts ≡ map (count_in pieces) code.pieces

-- some pieces more were counted, whatever was counted before
pub record Counted (code : StreamCode) (pieces : List (List ℕ)) (old new : List ℕ) : Type 0 where
  pub size : length new ≡ length old
  pub sum_is : sum new ≡ sum old + length pieces
  pub counts : (before : List (List ℕ)) → AreCounts code before old → AreCounts code (before ++ pieces) new

-- the counts have a place for each piece, and few were counted
pub record HasRoom (code : StreamCode) (counts : List ℕ) (more : ℕ) : Type 0 where
  pub size : length counts ≡ length code.pieces
  pub few : sum counts + more < 2 ^ 40

-- a document can be coded by a model, and its pieces counted
pub record CanCode (code : TextCode) (doc : List ℕ) (uses : Uses) : Type 0 where
  -- it is no longer than a collection may be
  pub short : length doc < 2 ^ 32
  -- the code is that of a model
  pub model : IsModel code
  -- there is room to count its pieces
  pub words : HasRoom code.words uses.words.items (length doc)
  pub others : HasRoom code.others uses.others.items (length doc)

-- ---- a piece and a pair

-- the codeword of a piece more was put, and the piece was counted
pub record PutPiece (code : StreamCode) (piece : List ℕ) (w0 w1 : TextWriting) (f0 f1 : Option Files)
    (old new : List ℕ) : Type 0 where
  pub took : (bits : Bits) → IsOnText w0 f0 [] bits → IsOnText w1 f1 [] (bits ++ codeword_of code piece)
  pub put : PutOne w0 w1
  pub base : w1.base ≡ w0.base
  pub told : is_some f1 ≡ is_some f0
  pub known : Contains code.pieces piece
  pub counted : Counted code (piece ∷ []) old new

-- the same of a piece of a stream of a model, into a store
abbrev pub PutsPiece : {X : Type 0} → (X → Option Files) → X → X → Stream → TextCode → List ℕ → TextWriting →
    TextWriting → List ℕ → List ℕ → Type 0
PutsPiece files before now stream model piece w0 w1 old new = PutPiece (code_of stream model) piece w0 w1 (files before)
    (files now) old new

-- the codewords of some pairs more were put, and their pieces were counted
pub record PutPairs (code : TextCode) (pairs : List Pair) (w0 w1 : TextWriting) (f0 f1 : Option Files)
    (old new : Uses) : Type 0 where
  pub took : (bits : Bits) → IsOnText w0 f0 [] bits → IsOnText w1 f1 [] (bits ++ flat_map (coded_pair code) pairs)
  pub left : w1.left + 2 * length pairs ≡ w0.left
  pub docs : w1.docs ≡ w0.docs
  pub pairs_are : w1.pairs ≡ w0.pairs
  pub is_open : w1.is_open ≡ w0.is_open
  pub base : w1.base ≡ w0.base
  pub told : is_some f1 ≡ is_some f0
  pub known : AllByRecursion (HasCodewords code) pairs
  pub words : Counted code.words (map (piece_of_pair Words) pairs) old.words.items new.words.items
  pub others : Counted code.others (map (piece_of_pair Others) pairs) old.others.items new.others.items

-- the document can be coded, these bytes are its code, and its pieces were counted
pub record IsCodedAs (code : TextCode) (doc bytes : List ℕ) (old new : Uses) : Type 0 where
  pub codable : IsCodable code doc
  pub bytes_are : bytes ≡ as_bytes (coded_doc code doc)
  pub short : length bytes ≤ 12 * length doc + 13
  pub words : Counted code.words (pieces_in Words doc) old.words.items new.words.items
  pub others : Counted code.others (pieces_in Others doc) old.others.items new.others.items

-- the bytes of the text in a store of its own
abbrev pub text_in : Option Files → List ℕ
text_in files = bytes_at files (full_name [] part.Text)

-- ---- the end of a document

-- a text is the one document of these bits, which a writer had begun
pub record IsClosed (w : TextWriting) (bits : Bits) (text : List ℕ) : Type 0 where
  pub bytes_are : text ≡ text_bytes (bits ∷ [])
  -- a pair takes at most twelve bytes, and so does the number of pairs
  pub short : 8 * length text ≤ 96 * w.pairs + 96 * w.docs + 7

-- where the store tells its files, its text is that document
abbrev pub ClosesText : TextWriting → Option Files → Option Files → Type 0
ClosesText w before now = (bits : Bits) → IsOnText w before [] bits → IsSome before → IsClosed w bits (text_in now)

-- ---- what came of it

-- where a document was coded
abbrev pub WhereCoded : {T E : Type 0} → Result (Option T) E → (T → Type 0) → Type 0
WhereCoded (Ok (Some value)) then = then value
WhereCoded (Ok None) then = Unit {0}
WhereCoded (Err refusal) then = Unit {0}

-- where it was put
abbrev pub WherePut : {E : Type 0} → Result (Option (Unit {0})) E → Type 0 → Type 0
WherePut (Ok (Some done)) then = then
WherePut (Ok None) then = Unit {0}
WherePut (Err refusal) then = Unit {0}

-- where a piece had no codeword
abbrev pub WhereUnknown : {T E : Type 0} → Result (Option T) E → Type 0 → Type 0
WhereUnknown (Ok (Some value)) then = Unit {0}
WhereUnknown (Ok None) then = then
WhereUnknown (Err refusal) then = Unit {0}

-- each piece of a code of these lengths comes, and they have Huffman's cost
pub record IsUsed (counts lengths : List ℕ) : Type 0 where
  pub used : All (λ c. 1 ≤ c) counts
  pub cost : cost_of counts lengths ≡ huffman_cost counts
