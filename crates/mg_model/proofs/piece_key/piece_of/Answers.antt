use Rattle.std.proofs.Common.{◌∙◌, ◌<◌, ap, sym, arith, slice_get, slice_index}
use Rattle.mg_defs.specs.Numbers.{eight_at}
use Rattle.mg_model.proofs.Keys.{longer-none, longer-there, piece-longer}
use Rattle.mg_model.proofs.piece_key.piece_of.Goals as goal

pub returns-in-Some : goal.returns-in-Some
returns-in-Some c =
    let longer = c.args.longer.now.keys in
    let key = c.args.key.now.entry in
    let many : 15 < slice_index key 0 = omega (arith, c.from.ensures, c.if-from-le-SHORT.false) in
    c.deref.ensures.value ∙ sym (longer-there longer (eight_at key 1) c.in-Some.piece.now (ap (slice_get longer) (sym c.eight_at.ensures) ∙ sym c.in-Some.ensures.key))
    ∙ sym (piece-longer longer key many)

pub returns-in-None : goal.returns-in-None
returns-in-None c =
    let longer = c.args.longer.now.keys in
    let key = c.args.key.now.entry in
    let many : 15 < slice_index key 0 = omega (arith, c.from.ensures, c.if-from-le-SHORT.false) in
    sym (longer-none longer (eight_at key 1) (ap (slice_get longer) (sym c.eight_at.ensures) ∙ sym c.in-None.ensures.key)) ∙ sym (piece-longer longer key many)
