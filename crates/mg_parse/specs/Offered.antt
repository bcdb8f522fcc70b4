-- What an offered byte does to the piece that is being read.
use Rattle.std.specs.Prelude.{◌≡◌, ℕ, ◌<◌, ◌≤◌, ◌⊎◌, true, false, List, [], ◌∷◌, ◌++◌, length}
use Rattle.mg_defs.specs.Parse.{is_of_kind}
use Rattle.mg_defs.specs.Pieces.{OpenPiece, Reads}
use Rattle.mg_parse.specs.declared.reader.Offer.{Offer}
use Rattle.mg_parse.specs.declared.reader.Offer.TheVariants.{Taken, Ended}
use Rattle.mg_defs.specs.Limits.{piece_bytes}

-- the byte is of the piece's kind, and the piece has room
pub record Fits (reading : OpenPiece) (byte : ℕ) : Type 0 where
  pub kind : is_of_kind reading.kind byte ≡ true
  pub room : length reading.piece < piece_bytes

-- the byte is of the other kind, or the piece is full
abbrev pub Ends : OpenPiece → ℕ → Type 0
Ends reading byte = (is_of_kind reading.kind byte ≡ false) ⊎ (piece_bytes ≤ length reading.piece)

-- where the pieces told so far and the current one are those of a document up to this byte, they still are once the current one is told and the next begun
abbrev pub ReadsEnded : OpenPiece → OpenPiece → List (List ℕ) → List ℕ → ℕ → Type 0
ReadsEnded old new told doc byte = Reads old told doc (byte ∷ []) → Reads new (told ++ old.piece ∷ []) doc (byte ∷ [])

abbrev pub Offered : OpenPiece → ℕ → Offer → OpenPiece → Type 0
-- a byte that fits joins the piece
Offered old byte Taken new = Fits old byte × (new ≡ record { kind = old.kind; piece = old.piece ++ byte ∷ [] })
-- any other ends it, and nothing changes
Offered old byte Ended new = Ends old byte × (new ≡ old)
