-- A reader of marks: what contracts see of it, and what was met in the bytes that it took.
use Rattle.std.specs.Prelude.{◌≡◌, ℕ, Bool, true, false, List, [], ◌∷◌, ◌++◌, flat_map}
use Rattle.mg_defs.specs.declared.Stream.{Stream}
use Rattle.mg_defs.specs.declared.Stream.TheVariants.{Words}
use Rattle.mg_defs.specs.Marks.{Mark, marks_of_document, piece, start, stop}
use Rattle.mg_defs.specs.Pieces.{OpenPiece, Reads, left_at_end, other_kind}
use Rattle.mg_defs.specs.Split.{IsDocument, closed_documents, has_open_end, open_part}
use Rattle.mg_parse.specs.Seen.{Seen, StandsFor}
use Rattle.mg_count.specs.Meeting.{Meeting, only_if}

-- pieces in turn, the first of a kind
abbrev pub marks_of_pieces : Stream → List (List ℕ) → List Mark
marks_of_pieces kind [] = []
marks_of_pieces kind (p ∷ pieces) = piece kind p ∷ marks_of_pieces (other_kind kind) pieces

-- the kind of the piece that follows them
abbrev pub kind_after : Stream → List (List ℕ) → Stream
kind_after kind [] = kind
kind_after kind (p ∷ pieces) = kind_after (other_kind kind) pieces

-- the splitter and the piece that is read, whether a document is open, and what the last byte gave
pub record Scanning : Type 0 where
  pub seen : Seen
  pub reading : OpenPiece
  pub is_open : Bool
  pub met : Meeting

-- the marks of an open document of which these pieces were told
abbrev pub marks_of_open : Bool → List (List ℕ) → List Mark
marks_of_open false told = []
marks_of_open true told = start ∷ marks_of_pieces Words told

-- These marks were met in these bytes: those of the closed documents, and where one is open, its start and the pieces that were told.
pub record HasMet (s : Scanning) (fed : List ℕ) (met : List Mark) : Type 0 where
  pub seen : StandsFor s.seen fed
  pub same : s.is_open ≡ has_open_end fed
  pub told : List (List ℕ)
  pub none : s.is_open ≡ false → told ≡ []
  pub kind : s.reading.kind ≡ kind_after Words told
  pub reads : Reads s.reading told (open_part fed) []
  pub marks_are : met ≡ flat_map marks_of_document (closed_documents fed) ++ marks_of_open s.is_open told

-- A byte was read into a document: these pieces ended before it.
pub record HasRead (old new : OpenPiece) (byte : ℕ) (ended : List (List ℕ)) : Type 0 where
  pub kind : new.kind ≡ kind_after old.kind ended
  pub reads : (told : List (List ℕ)) (doc : List ℕ) → Reads old told doc [] →
      Reads new (told ++ ended) (doc ++ byte ∷ []) []

-- These bytes were read on into the piece that is read: no piece ended before any of them.
pub record HasReadOn (old new : OpenPiece) (run : List ℕ) : Type 0 where
  pub kind : new.kind ≡ old.kind
  -- none of them closes a document
  pub within : IsDocument run
  pub reads : (told : List (List ℕ)) (doc : List ℕ) → Reads old told doc [] → Reads new told (doc ++ run) []

-- what is met with a byte of a document, before which these pieces ended
abbrev pub joined_marks : Bool → Stream → List (List ℕ) → List Mark
joined_marks begins kind ended = only_if begins start ++ marks_of_pieces kind ended

-- what is met with the end of a document, of which this piece is read
abbrev pub closing_marks : Bool → OpenPiece → List Mark
closing_marks begins reading = only_if begins start
    ++ (marks_of_pieces reading.kind (left_at_end reading.kind reading.piece) ++ stop ∷ [])
