use Rattle.std.proofs.Common.{◌∙◌, arith}
use Rattle.mg_model.proofs.FirstBytes.{masked-key, masked-small, read-back}
use Rattle.mg_model.proofs.piece_key.PieceKey.first_of.Goals as goal

pub overflow_mul-number : goal.overflow_mul-number
overflow_mul-number c = omega (arith, masked-small c.from_le_bytes.result c.args.length c.requires)

pub overflow_add-number : goal.overflow_add-number
overflow_add-number c = omega (arith, masked-small c.from_le_bytes.result c.args.length c.requires, c.requires)

pub returns : goal.returns
returns c =
    let n = c.from_le_bytes.result in
    let read = read-back c.args.bytes.now n (omega (arith, c.told-bytes)) (λ i. omega (arith, c.fits-bytes i)) c.from_le_bytes.ensures in
    c.to_le_bytes.ensures ∙ masked-key c.args.bytes.now n c.args.length c.requires (omega arith) read
