use Rattle.std.proofs.Common.{sym, arith}
use Rattle.mg_model.specs.Keys.{holds}
use Rattle.mg_model.proofs.Keys.{longer-is, position-some}
use Rattle.mg_model.proofs.piece_key.key_of.Goals as goal

pub returns-in-Some-clause-key : goal.returns-in-Some-clause-key
returns-in-Some-clause-key c =
    let at = position-some (holds c.args.piece.now) c.args.longer.now.keys c.in-Some.number (sym c.in-Some.ensures.index) in
    longer-is c.args.longer.now.keys c.longer.result.entry c.args.piece.now c.in-Some.number (omega (arith, c.if-piece-le-SHORT.false)) c.longer.ensures.fits
    (sym at.0) (omega (arith, at.0, at.1)) c.longer.ensures.key
