-- What one byte of a collection gives, in order: the start of a document, a piece, an empty piece of the other kind, and the end of a document.
use Rattle.std.specs.Prelude.{Bool, true, false, if◌then◌else◌, ℕ, List, [], ◌∷◌, ◌++◌}
use Rattle.mg_defs.specs.declared.Stream.{Stream}
use Rattle.mg_defs.specs.Marks.{Mark, piece, start, stop}
use Rattle.mg_defs.specs.Pieces.{other_kind}

-- which of the four there are, and the piece with its kind
pub record Meeting : Type 0 where
  pub begins : Bool
  pub has_piece : Bool
  pub has_other : Bool
  pub ends : Bool
  pub kind : Stream
  pub bytes : List ℕ

abbrev pub only_if : Bool → Mark → List Mark
only_if holds mark = if holds then mark ∷ [] else []

-- the marks that it tells
abbrev pub marks_of : Meeting → List Mark
marks_of m =
    only_if m.begins start
    ++ (only_if m.has_piece (piece m.kind m.bytes)
    ++ (only_if m.has_other (piece (other_kind m.kind) []) ++ only_if m.ends stop))

-- ---- one after the other

-- nothing but maybe the start of a document, after what was met before
abbrev pub restarted : Bool → Meeting → Meeting
restarted begins m = record {
  begins = begins;
  has_piece = false;
  has_other = false;
  ends = false;
  kind = m.kind;
  bytes = m.bytes;
}

-- and a piece
abbrev pub with_piece : Stream → List ℕ → Meeting → Meeting
with_piece kind bytes m = record {
  begins = m.begins;
  has_piece = true;
  has_other = m.has_other;
  ends = m.ends;
  kind = kind;
  bytes = bytes;
}

-- and an empty piece of the other kind
abbrev pub with_other : Meeting → Meeting
with_other m = record {
  begins = m.begins;
  has_piece = m.has_piece;
  has_other = true;
  ends = m.ends;
  kind = m.kind;
  bytes = m.bytes;
}

-- and the end of the document
abbrev pub with_end : Meeting → Meeting
with_end m = record {
  begins = m.begins;
  has_piece = m.has_piece;
  has_other = m.has_other;
  ends = true;
  kind = m.kind;
  bytes = m.bytes;
}

-- a piece, where there is one
abbrev pub piece_if : Bool → Stream → List ℕ → List Mark
piece_if ends stream bytes = only_if ends (piece stream bytes)
