-- The documents of a collection as the bits that a writer is handed, and their parts.
use Rattle.std.specs.Prelude.{◌≡◌, ℕ, List, [], ◌∷◌, ◌++◌, length, map}
use Rattle.std.specs.declared.option.Option.{Option}
use Rattle.mg_dev.specs.Files.{Files, bytes_at}
use Rattle.mg_dev.specs.Names.{full_name}
use Rattle.mg_dev.specs.declared.part.Part.TheVariants.{Text, Places}
use Rattle.mg_defs.specs.declared.Stream.{Stream}
use Rattle.mg_defs.specs.declared.Stream.TheVariants.{Words}
use Rattle.mg_defs.specs.Bits.{Bits, bits_of}
use Rattle.mg_defs.specs.CodedText.{IsTextCode, TextCode, coded_doc, text_part, places_part}
use Rattle.mg_defs.specs.Pieces.{other_kind}
use Rattle.mg_defs.specs.Split.{documents}
use Rattle.mg_defs.specs.Marks.{piece_bits}
use Rattle.mg_text_writer.specs.Writing.{DocumentsStand, turn}

abbrev pub coded_docs : TextCode → List ℕ → List Bits
coded_docs code collection = map (coded_doc code) (documents collection)

-- the codewords of pieces in turn, of which the first is of a kind
abbrev pub pieces_bits : TextCode → Stream → List (List ℕ) → Bits
pieces_bits code kind [] = []
pieces_bits code kind (piece ∷ rest) = piece_bits code kind piece ++ pieces_bits code (other_kind kind) rest

-- the bits of a piece stand behind those of the pieces before it
abbrev pub AddsPiece : TextCode → List (List ℕ) → List ℕ → Type 0
AddsPiece code before piece = pieces_bits code Words (before ++ piece ∷ []) ≡ pieces_bits code Words before
    ++ piece_bits code (turn (length before)) piece

-- a fact on a base, the files, a code and a collection
abbrev pub ForCoded : (List ℕ → Option Files → TextCode → List ℕ → Type 0) → Type 0
ForCoded fact = (base : List ℕ) (files : Option Files) (code : TextCode) (collection : List ℕ) →
    fact base files code collection

-- a fact on a base, the files and a collection whose documents were written there by its codes
abbrev pub ForWrittenDocuments : (List ℕ → Option Files → List ℕ → Type 0) → Type 0
ForWrittenDocuments fact = (base : List ℕ) (files : Option Files) (code : TextCode) (collection : List ℕ) →
    IsTextCode collection code → DocumentsStand base files (coded_docs code collection) → fact base files collection

-- the parts of a base hold the documents of a collection, and their places in 8 bytes each
pub record TextHolds (base : List ℕ) (files : Option Files) (code : TextCode) (collection : List ℕ) : Type 0 where
  pub text : bits_of (bytes_at files (full_name base Text)) ≡ bits_of (text_part code collection)
  pub size : length (bytes_at files (full_name base Text)) ≡ length (text_part code collection)
  pub places : bytes_at files (full_name base Places) ≡ places_part 2 code collection
