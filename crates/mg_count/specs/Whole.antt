-- Pieces that end within the bytes in which they began.
use Rattle.std.specs.Prelude.{◌≡◌, ◌≢◌, ◌<◌, ◌≤◌, ◌+◌, ◌-◌, ℕ, true, false, List, [], ◌∷◌, ◌++◌, get_or, length, take, drop}
use Rattle.std.specs.List.{AllByRecursion}
use Rattle.std.specs.declared.result.Result.{Result}
use Rattle.std.specs.declared.result.Result.TheVariants.{Ok, Err}
use Rattle.mg_dev.specs.declared.fault.Fault.{Fault}
use Rattle.mg_dev.specs.declared.fault.Fault.TheVariants.{Memory as no_memory, TooManyPieces}
use Rattle.mg_defs.specs.declared.Stream.{Stream}
use Rattle.mg_defs.specs.Marks.{Mark, piece}
use Rattle.mg_defs.specs.Parse.{is_of_kind}
use Rattle.mg_defs.specs.Pieces.{OpenPiece, other_kind}
use Rattle.mg_defs.specs.Split.{IsDocument}
use Rattle.mg_model.specs.declared.vocab_err.VocabErr.{VocabErr}
use Rattle.mg_model.specs.declared.vocab_err.VocabErr.TheVariants.{Memory, TooMany}
use Rattle.mg_count.specs.Counting.{CountStopsAmong, FirstPass, HasCounted}
use Rattle.mg_count.specs.Scanning.{HasMet, Scanning}

-- the bytes from one place to another
abbrev pub between : ℕ → ℕ → List ℕ → List ℕ
between from to bytes = take (to - from) (drop from bytes)

-- those from one place to another are of a kind, and close no document; with one before them they are no more than a piece has
pub record GoesOnTo (kind : Stream) (bytes : List ℕ) (from to : ℕ) : Type 0 where
  pub after : from ≤ to
  pub within : to ≤ length bytes
  pub short : to ≤ from + 254
  pub of_kind : AllByRecursion (λ b. is_of_kind kind b ≡ true) (between from to bytes)
  pub is_open : IsDocument (between from to bytes)

-- they go on to no place behind this one
abbrev pub GoesOnNoFurther : Stream → List ℕ → ℕ → ℕ → Type 0
GoesOnNoFurther kind bytes from to = (further : ℕ) → GoesOnTo kind bytes from further → further ≤ to

-- a byte of the other kind, which closes no document, begins the next piece
pub record TurnsAt (old new : OpenPiece) (byte : ℕ) : Type 0 where
  pub is_open : byte ≢ 2
  pub ends : is_of_kind old.kind byte ≡ false
  pub begins : new ≡ record { kind = other_kind old.kind; piece = byte ∷ [] }

-- The piece that is read is the byte at one place, and ends before another, with whose byte the next begins.
pub record IsWholePiece (s : Scanning) (bytes : List ℕ) (at next : ℕ) : Type 0 where
  pub is_open : s.is_open ≡ true
  pub begins : s.reading.piece ≡ get_or bytes at 0 ∷ []
  pub goes_on : GoesOnTo s.reading.kind bytes (at + 1) next
  pub within : next < length bytes
  -- that byte is of the other kind, and closes no document
  pub ends : is_of_kind s.reading.kind (get_or bytes next 0) ≡ false
  pub stays : get_or bytes next 0 ≢ 2

-- The piece that began at one place ended before another, with whose byte the next began.
pub record EndsPiece (old new : Scanning) (bytes : List ℕ) (at next : ℕ) : Type 0 where
  pub after : at < next
  pub within : next < length bytes
  pub short : next - at ≤ 255
  -- the bytes before that one go on the piece
  pub middle : Scanning
  pub read : (fed : List ℕ) (met : List Mark) → HasMet old fed met → HasMet middle (fed ++ between (at + 1) next bytes) met
  -- and with it the piece is met
  pub met : (fed : List ℕ) (met : List Mark) → HasMet old fed met →
      HasMet new (fed ++ between (at + 1) (next + 1) bytes) (met ++ piece old.reading.kind (between at next bytes) ∷ [])

-- why a piece of the stream is refused, as a fault
abbrev pub fault_by : Stream → VocabErr → Fault
fault_by stream TooMany = TooManyPieces stream
fault_by stream Memory = no_memory

-- the bytes behind a place are counted up to another and with it, or why one of them is not
abbrev pub CountsBehind : FirstPass → FirstPass → List ℕ → ℕ → Result ℕ Fault → Type 0
CountsBehind old new bytes at (Ok next) = (at ≤ next) × (next < length bytes)
    × ((fed : List ℕ) → HasCounted old fed → HasCounted new (fed ++ between (at + 1) (next + 1) bytes))
CountsBehind old new bytes at (Err fault) = CountStopsAmong old (drop (at + 1) bytes) fault
