use Rattle.std.proofs.Common.{◌≡◌, ◌∙◌, ◌∷◌, ◌++◌, ◌-◌, [], ap, arith, length, replicate, take}
use Rattle.mg_model.proofs.Lists.{take-all}
use Rattle.mg_model.proofs.Sixteen.{at-last, first-top, next-top}
use Rattle.mg_model.proofs.piece_key.PieceKey.filled.Goals as goal

pub loop-byte-init : goal.loop-byte-init
loop-byte-init c = first-top c.from-number.result (omega (arith, c.from-number.ensures, c.ranges.first.fits)) ∙ ap (λ f. replicate 15 0 ++ f ∷ []) c.from-number.ensures

pub loop-byte-preserved : goal.loop-byte-preserved
loop-byte-preserved c =
    next-top c.loop-byte.number c.from.result c.args.first c.loop-byte.byte-index c.args.bytes.now (omega (arith, c.loop-byte.auto.number-fits))
    (omega (arith, c.from.ensures, c.type_inv.bytes c.loop-byte.byte-index)) c.requires c.loop-byte-test.true c.from.ensures c.loop-byte.invariant

pub returns : goal.returns
returns c =
    let all : c.loop-byte.byte-index ≡ length c.args.bytes.now = omega (arith, c.loop-byte.auto.byte-index-end, c.loop-byte-test.false) in
    c.to_le_bytes.ensures
    ∙ at-last c.loop-byte.number c.args.first c.args.bytes.now (omega (arith, c.loop-byte.auto.number-fits))
    (c.loop-byte.invariant ∙ ap (λ i. replicate (15 - i) 0 ++ c.args.first ∷ take i c.args.bytes.now) all
    ∙ ap (λ l. replicate (15 - length c.args.bytes.now) 0 ++ c.args.first ∷ l) (take-all c.args.bytes.now (length c.args.bytes.now) (omega arith)))
