use Rattle.std.proofs.Common.{◌∙◌, ◌&&◌, arith, nat_eq}
use Rattle.mg_model.proofs.Sixteen.{halves-same}
use Rattle.mg_model.proofs.piece_key.same_entries.Goals as goal

pub returns : goal.returns
returns c =
    (λ i. nat_eq (c.eight_at.ensures i) (c.eight_at-2.ensures i) && nat_eq (c.eight_at-3.ensures i) (c.eight_at-4.ensures i))
    ∙ halves-same c.args.one.now c.args.other.now (omega (arith, c.told-one)) (omega (arith, c.told-other)) (λ i. omega (arith, c.fits-one i)) (λ i. omega (arith, c.fits-other i))
