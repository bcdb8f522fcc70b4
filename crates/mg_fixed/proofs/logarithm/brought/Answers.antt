use Rattle.std.proofs.Common.{◌≡◌, ◌*◌, ◌^◌, ◌-◌, ◌%◌, arith, ◌∙◌}
use Rattle.mg_fixed.proofs.Steps.{low_is, low_small, high_is, high_small}
use Rattle.mg_fixed.proofs.logarithm.brought.Goals as goal

pub returns-then-whole-le-POINT-clause-is : goal.returns-then-whole-le-POINT-clause-is
returns-then-whole-le-POINT-clause-is c =
    let small = low_small c.args.x c.args.whole c.if-whole-le-POINT.true c.requires.high in
    let same : c.args.x * 2 ^ (31 - c.args.whole) % 2 ^ 64 ≡ c.args.x * 2 ^ (31 - c.args.whole) = omega (arith, small) in
    same ∙ low_is c.args.x c.args.whole c.if-whole-le-POINT.true

pub returns-then-whole-le-POINT-clause-small : goal.returns-then-whole-le-POINT-clause-small
returns-then-whole-le-POINT-clause-small c = omega (arith, low_small c.args.x c.args.whole c.if-whole-le-POINT.true c.requires.high)

pub returns-else-whole-le-POINT-clause-is : goal.returns-else-whole-le-POINT-clause-is
returns-else-whole-le-POINT-clause-is c = high_is c.args.x c.args.whole c.if-whole-le-POINT.false

pub returns-else-whole-le-POINT-clause-small : goal.returns-else-whole-le-POINT-clause-small
returns-else-whole-le-POINT-clause-small c = high_small c.args.x c.args.whole c.if-whole-le-POINT.false c.requires.high
