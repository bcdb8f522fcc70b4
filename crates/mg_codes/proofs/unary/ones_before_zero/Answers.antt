use Rattle.std.proofs.Common.{arith, refl, ◌<◌}
use Rattle.mg_codes.proofs.HeldCodes.{ones_end}
use Rattle.mg_codes.proofs.Instances.{below_power}
use Rattle.mg_codes.proofs.unary.ones_before_zero.Goals as goal

pub overflow_sub-result : goal.overflow_sub-result
overflow_sub-result c =
    let small : c.ilog2.result < 57 = below_power _ c.ilog2.result 57 (omega arith) c.ilog2.ensures.power_le in
    omega (arith, c.from.ensures)

pub returns : goal.returns
returns c =
    let small : c.ilog2.result < 57 = below_power _ c.ilog2.result 57 (omega arith) c.ilog2.ensures.power_le in
    ones_end c.args.next _ c.ilog2.result _ refl c.requires c.ilog2.ensures.power_le (omega (arith, c.ilog2.ensures.next_power_gt)) (omega arith) (omega (arith, c.from.ensures))
