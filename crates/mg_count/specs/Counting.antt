-- The first pass: the pieces of both streams and the pairs of each document, counted.
use Rattle.std.specs.Prelude.{◌≡◌, ◌<◌, ◌+◌, ◌^◌, ℕ, Bool, false, List, [], ◌∷◌, ◌++◌, length, take}
use Rattle.mg_dev.specs.declared.fault.Fault.{Fault}
use Rattle.mg_dev.specs.declared.fault.Fault.TheVariants.{Memory, TooManyDocuments, TooManyPieces}
use Rattle.mg_defs.specs.declared.Stream.{Stream}
use Rattle.mg_defs.specs.declared.Stream.TheVariants.{Words, Others}
use Rattle.mg_defs.specs.Limits.{version_2}
use Rattle.mg_defs.specs.Marks.{AreWithinLimits, Mark, PassesFirst, marks, pairs_from, piece, pieces_among, piece_count_from, start, starts}
use Rattle.mg_defs.specs.Split.{has_open_end}
use Rattle.mg_defs.specs.Vocabulary.{has_piece, vocabulary}
use Rattle.mg_count.specs.Scanning.{HasMet, Scanning}

pub record Counting : Type 0 where
  pub words : List (List ℕ × ℕ)
  pub others : List (List ℕ × ℕ)
  -- of each document that ended
  pub pairs : List ℕ
  -- of the open one
  pub pieces : ℕ
  -- that were begun
  pub documents : ℕ

-- these marks were counted, and no limit was passed
pub record IsCounted (c : Counting) (met : List Mark) : Type 0 where
  pub words : c.words ≡ vocabulary (pieces_among Words met)
  pub others : c.others ≡ vocabulary (pieces_among Others met)
  pub pairs : c.pairs ≡ pairs_from 0 met
  pub pieces : c.pieces ≡ piece_count_from 0 met
  pub documents : c.documents ≡ starts met
  pub within : AreWithinLimits version_2 met

-- so few pieces of each stream that their number fits in four bytes
pub record AreFew (met : List Mark) : Type 0 where
  pub words : length (pieces_among Words met) < 2 ^ 32
  pub others : length (pieces_among Others met) < 2 ^ 32

-- with this mark of the next ones a limit is passed that was not passed before
pub record PassesAfter (met next : List Mark) (mark : Mark) : Type 0 where
  pub before : List Mark
  pub after : List Mark
  pub whole : next ≡ before ++ mark ∷ after
  pub within : AreWithinLimits version_2 (met ++ before)
  pub beyond : ¬ AreWithinLimits version_2 (met ++ (before ++ mark ∷ []))

-- why counting the next marks stops
abbrev pub StopsAt : List Mark → List Mark → Fault → Type 0
StopsAt met next TooManyDocuments = PassesAfter met next start
StopsAt met next (TooManyPieces stream) = (bytes : List ℕ) × PassesAfter met next (piece stream bytes)
StopsAt met next Memory = Unit {0}
StopsAt met next _ = ⊥

-- why a piece is not counted
abbrev pub PieceStops : Stream → List (List ℕ × ℕ) → List ℕ → Fault → Type 0
PieceStops kind entries bytes (TooManyPieces stream) = (stream ≡ kind) × (has_piece entries bytes ≡ false)
    × (length entries ≡ version_2.pieces)
PieceStops kind entries bytes Memory = Unit {0}
PieceStops kind entries bytes _ = ⊥

-- ---- bytes

-- the scanner and what it counts
pub record FirstPass : Type 0 where
  pub scanning : Scanning
  pub counting : Counting

-- these bytes were counted, and no limit was passed
pub record HasCounted (c : FirstPass) (fed : List ℕ) : Type 0 where
  pub met : List Mark
  pub scanned : HasMet c.scanning fed met
  pub counted : IsCounted c.counting met

-- These are the numbers of a collection of fewer than 2^32 bytes, which is within the limits.
pub record IsCountOf (c : Counting) (open_end : Bool) (collection : List ℕ) : Type 0 where
  pub few : length collection < 2 ^ 32
  pub counted : IsCounted c (marks collection)
  pub end : open_end ≡ has_open_end collection

-- the bytes, whatever follows them, pass a limit first with this mark
abbrev pub PassWith : List ℕ → Mark → Type 0
PassWith fed mark = (more : List ℕ) → PassesFirst version_2 (fed ++ more) mark

-- why counting stops at the last of these bytes
abbrev pub CountStops : List ℕ → Fault → Type 0
CountStops fed TooManyDocuments = PassWith fed start
CountStops fed (TooManyPieces stream) = (bytes : List ℕ) × PassWith fed (piece stream bytes)
CountStops fed Memory = Unit {0}
CountStops fed _ = ⊥

-- counting stops at one of these bytes, which come behind those that were counted
pub record CountStopsAmong (old : FirstPass) (bytes : List ℕ) (fault : Fault) : Type 0 where
  -- so many of them are taken before it
  pub taken : ℕ
  pub within : taken < length bytes
  -- and counted
  pub middle : FirstPass
  pub counted : (fed : List ℕ) → HasCounted old fed → HasCounted middle (fed ++ take taken bytes)
  -- it is why counting stops
  pub stops : (fed : List ℕ) → HasCounted old fed → CountStops (fed ++ take (taken + 1) bytes) fault

-- why it stops at their end
abbrev pub EndStops : List ℕ → Fault → Type 0
EndStops collection TooManyDocuments = PassesFirst version_2 collection start
EndStops collection (TooManyPieces stream) = (bytes : List ℕ) × PassesFirst version_2 collection (piece stream bytes)
EndStops collection Memory = Unit {0}
EndStops collection _ = ⊥
