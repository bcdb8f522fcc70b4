use Rattle.std.proofs.Common.{arith, ◌-◌, ◌<◌, ◌≡◌, ◌^◌}
use Rattle.std.proofs.lemmas.Nat.{pow_pos}
use Rattle.mg_post.proofs.AheadLaws.{below_count, unary_takes}
use Rattle.mg_post.proofs.ahead.unary_ahead.Goals as goal

pub overflow_sub-ahead-2 : goal.overflow_sub-ahead-2
overflow_sub-ahead-2 c =
    let lt : c.ilog2-count.result < c.args.ahead.count = below_count c.ilog2-count.result c.args.ahead.count c.args.ahead.bits _ (omega (arith, c.power.ensures)) c.ilog2-count.ensures.power_le in
    omega (arith, lt)

pub power-requires-2 : goal.power-requires-2
power-requires-2 c =
    let lt : c.ilog2-count.result < c.args.ahead.count = below_count c.ilog2-count.result c.args.ahead.count c.args.ahead.bits _ (omega (arith, c.power.ensures)) c.ilog2-count.ensures.power_le in
    omega (arith, lt, c.args.ahead.few)

pub returns-clause-takes : goal.returns-clause-takes
returns-clause-takes c =
    let is : c.power.result - 1 - c.args.ahead.bits ≡ 2 ^ c.args.ahead.count - 1 - c.args.ahead.bits = omega (arith, c.power.ensures) in
    rw c.power-2.ensures
    (unary_takes c.args.ahead.count c.args.ahead.bits (c.power.result - 1 - c.args.ahead.bits) c.ilog2-count.result c.from.result c.args.ahead.below is
    c.ilog2-count.ensures.power_le c.ilog2-count.ensures.next_power_gt c.from.ensures)

pub invariant_of-result : goal.invariant_of-result
invariant_of-result c =
    let lt : c.ilog2-count.result < c.args.ahead.count = below_count c.ilog2-count.result c.args.ahead.count c.args.ahead.bits _ (omega (arith, c.power.ensures)) c.ilog2-count.ensures.power_le in
    let some : 0 < 2 ^ c.ilog2-count.result = pow_pos c.ilog2-count.result in
    record { below = rw c.power-2.ensures (omega (arith, some)); few = omega (arith, lt, c.args.ahead.few) }
