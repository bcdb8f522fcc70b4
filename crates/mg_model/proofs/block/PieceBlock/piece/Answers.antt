use Rattle.std.proofs.Common.{arith, ◌<◌, length, ap}
use Rattle.mg_model.proofs.Blocks.{entry-is, length-pieces, piece-there}
use Rattle.mg_model.proofs.block.PieceBlock.piece.Goals as goal

pub piece_of-requires : goal.piece_of-requires
piece_of-requires c =
    let low : c.args.place < length c.self.inside.entries.items = omega (arith, length-pieces c.self.inside.long.items c.self.inside.entries.items, ap length c.self.view_is, c.requires) in
    rw (c.entry_at.ensures, c.deref.ensures.value, c.deref-2.ensures.value) (entry-is (length c.self.inside.long.items) c.self.inside.entries.items c.args.place c.self.invariant.entries_are low)

pub returns-clause-piece : goal.returns-clause-piece
returns-clause-piece c =
    let low : c.args.place < length c.self.inside.entries.items = omega (arith, length-pieces c.self.inside.long.items c.self.inside.entries.items, ap length c.self.view_is, c.requires) in
    rw (c.piece_of.ensures.piece, c.entry_at.ensures, c.deref.ensures.value, c.deref-2.ensures.value, ← c.self.view_is)
    (piece-there c.self.inside.long.items c.self.inside.entries.items c.args.place low)
