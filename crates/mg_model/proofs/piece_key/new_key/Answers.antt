use Rattle.std.proofs.Common.{◌∙◌, arith}
use Rattle.mg_model.proofs.Keys.{longer-is, put-longer, put-place}
use Rattle.mg_model.proofs.piece_key.new_key.Goals as goal

pub returns-clause-key : goal.returns-clause-key
returns-clause-key c =
    let first = c.in-Ok.ensures.index ∙ put-place c.args.longer.now.keys c.insert_full.new.self.keys c.in_ok-kept.kept c.args.piece.now (c.in_ok-kept.ensures.items ∙ c.bytes.ensures) c.in-Ok.ensures.keys in
    longer-is c.insert_full.new.self.keys c.longer.result.entry c.args.piece.now c.in-Ok.number (omega (arith, c.len.ensures, c.if-len-le-SHORT.false)) c.longer.ensures.fits
    first c.in-Ok.ensures.within c.longer.ensures.key

pub returns-clause-extends : goal.returns-clause-extends
returns-clause-extends c = put-longer c.args.longer.now.keys c.insert_full.new.self.keys c.in_ok-kept.kept c.in-Ok.ensures.keys
