use Rattle.std.proofs.Common.{arith, refl, ◌+◌, ◌-◌}
use Rattle.mg_bits.proofs.PutLaws.{piece_kept, piece_refused, piece_sent}
use Rattle.mg_bits.proofs.bit_writer.BitWriter.put_piece.Goals as goal

pub returns-then-total-lt8 : goal.returns-then-total-lt8
returns-then-total-lt8 g c =
    rw (← c.self.view_is)
    (piece_kept _ c.self.inside.rest c.self.inside.count c.requires.bits c.from.ensures c.join-word.ensures.value c.self.invariant.3 (omega arith))

pub returns-in-Ok : goal.returns-in-Ok
returns-in-Ok g c =
    rw (← c.self.view_is, c.low-self-inside.ensures)
    (piece_sent _ c.self.inside.rest c.self.inside.count c.requires.bits c.from-in-Ok.ensures c.join-word.ensures.value _ (c.self.inside.count + c.args.size - 8) c.high.ensures
    (omega arith) (omega (arith, c.self.invariant.0))
    c.in-Ok.ensures)

pub returns-in-Err : goal.returns-in-Err
returns-in-Err g c =
    rw (← c.self.view_is)
    (piece_refused _ c.self.inside.rest c.self.inside.count c.requires.bits refl c.join-word.ensures.value _ (c.self.inside.count + c.args.size - 8) c.high.ensures (omega arith) c.self.invariant.0
    c.in-Err.ensures)
