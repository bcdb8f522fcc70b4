use Rattle.std.proofs.Common.{◌≡◌, ◌-◌, ◌∷◌, ◌++◌, replicate, take}
use Rattle.std.specs.Int.{to_le_bytes, w128}
use Rattle.mg_model.proofs.piece_key.PieceKey.filled.Given as goal

abbrev pub invariant-loop-byte : goal.invariant-loop-byte
invariant-loop-byte l = to_le_bytes w128 l.number ≡ replicate (15 - l.byte-index) 0 ++ l.first ∷ take l.byte-index l.bytes
