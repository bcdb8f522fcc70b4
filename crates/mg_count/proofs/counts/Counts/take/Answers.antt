use Rattle.mg_count.proofs.counts.Counts.take.Goals as goal

pub piece_if-requires-clause-few : goal.piece_if-requires-clause-few
piece_if-requires-clause-few c = rw (c.kind.ensures, c.piece.ensures.bytes, ← c.is_piece_alone.ensures c.if-is_piece_alone.true) c.requires.few

pub returns-then-is_piece_alone-clause-counted : goal.returns-then-is_piece_alone-clause-counted
returns-then-is_piece_alone-clause-counted c = rw (c.is_piece_alone.ensures c.if-is_piece_alone.true, ← c.kind.ensures, ← c.piece.ensures.bytes) c.piece_if.ensures.counted

pub returns-then-is_piece_alone-clause-refused : goal.returns-then-is_piece_alone-clause-refused
returns-then-is_piece_alone-clause-refused c = rw (c.is_piece_alone.ensures c.if-is_piece_alone.true, ← c.kind.ensures, ← c.piece.ensures.bytes) c.piece_if.ensures.refused
