use Rattle.std.proofs.Common.{arith, refl, ap, ◌+◌, ◌^◌}
use Rattle.std.proofs.Math.Pow.{pow_pos}
use Rattle.std.proofs.lemmas.Nat.{mod_below}
use Rattle.mg_bits.proofs.Places.{page_of_place}
use Rattle.mg_bits.proofs.BitPieces.{told_no_bit, told_piece}
use Rattle.mg_bits.proofs.ReadLaws.{piece_got, piece_refused, told_any}
use Rattle.mg_bits.proofs.bit_reader.BitReader.piece.Goals as goal

pub returns-in-Err-clause-next : goal.returns-in-Err-clause-next
returns-in-Err-clause-next g c =
    let e = c.in-Err.ensures in
    rw (← c.self.view_is)
    (piece_refused c.requires.some (rw (← c.self.view_is) at c.requires.room) e.fits e.calm e.pages _ refl (told_any _ c.self.inside.place) e.cause.failed)

pub returns-in-Ok-None-clause-next : goal.returns-in-Ok-None-clause-next
returns-in-Ok-None-clause-next g c =
    let e = c.in-Ok-None.ensures in
    rw (← c.self.view_is)
    (piece_refused c.requires.some (rw (← c.self.view_is) at c.requires.room) e.fits e.calm e.pages _ refl
    (told_no_bit _ c.self.inside.place (rw c.in-Ok-None.field-0-is at e.told)) tt)

pub returns-in-Ok-Some-clause-next : goal.returns-in-Ok-Some-clause-next
returns-in-Ok-Some-clause-next g c =
    let e = c.in-Ok-Some.ensures in
    let room = rw (← c.self.view_is) at c.requires.room in
    rw (← c.self.view_is, c.field.ensures)
    (piece_got c.requires.some room e.fits e.calm e.pages _ (ap (λ n. c.self.inside.place + n) c.from.ensures) (rw c.in-Ok-Some.field-0-is at e.held)
    (told_piece _ c.self.inside.place c.in-Ok-Some.byte c.args.count _ (omega (arith, room)) (rw c.in-Ok-Some.field-0-is at e.told)))

pub returns-in-Ok-Some-clause-below : goal.returns-in-Ok-Some-clause-below
returns-in-Ok-Some-clause-below g c = rw c.field.ensures (mod_below _ (2 ^ c.args.count) (pow_pos c.args.count))

pub returns-in-Err-clause-keeps : goal.returns-in-Err-clause-keeps
returns-in-Err-clause-keeps g c =
    rw (← c.self.view_is, ← page_of_place (g.F.Feed.feeding c.self.inside.feed).page c.self.inside.place) c.in-Err.ensures.keeps

pub returns-in-Ok-None-clause-keeps : goal.returns-in-Ok-None-clause-keeps
returns-in-Ok-None-clause-keeps g c =
    rw (← c.self.view_is, ← page_of_place (g.F.Feed.feeding c.self.inside.feed).page c.self.inside.place) c.in-Ok-None.ensures.keeps

pub returns-in-Ok-Some-clause-keeps : goal.returns-in-Ok-Some-clause-keeps
returns-in-Ok-Some-clause-keeps g c =
    rw (← c.self.view_is, ← page_of_place (g.F.Feed.feeding c.self.inside.feed).page c.self.inside.place) c.in-Ok-Some.ensures.keeps
