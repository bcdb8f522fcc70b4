use Rattle.std.proofs.Common.{refl}
use Rattle.mg_make.proofs.mark_writer.put_marks.Goals as goal

pub piece_if-requires : goal.piece_if-requires
piece_if-requires g c = λ k. ((refl, tt), rw (c.kind.ensures, c.alone.ensures, c.piece.ensures.bytes, ← c.is_piece_alone.ensures c.if-is_piece_alone.true) c.requires.next)

pub returns-then-is_piece_alone : goal.returns-then-is_piece_alone
returns-then-is_piece_alone g c = rw (c.is_piece_alone.ensures c.if-is_piece_alone.true, ← c.kind.ensures, ← c.piece.ensures.bytes, ← c.alone.ensures) c.piece_if.ensures
