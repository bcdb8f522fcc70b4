use Rattle.std.proofs.Common.{arith}
use Rattle.mg_codes.proofs.ShortWalk.{ceil_of_one, ceil_of_more, small_ceil}
use Rattle.mg_codes.proofs.remainder.code_size.Goals as goal

pub returns-then-b-le1-clause-size : goal.returns-then-b-le1-clause-size
returns-then-b-le1-clause-size c = ceil_of_one c.args.b c.requires.parameter.some c.if-b-le1.true

pub returns-else-b-le1-clause-size : goal.returns-else-b-le1-clause-size
returns-else-b-le1-clause-size c = ceil_of_more c.args.b c.ilog2.result c.if-b-le1.false c.requires.parameter.small c.ilog2.ensures.power_le c.ilog2.ensures.next_power_gt

pub returns-else-b-le1-clause-small : goal.returns-else-b-le1-clause-small
returns-else-b-le1-clause-small c =
    omega (arith, returns-else-b-le1-clause-size c, small_ceil c.args.b c.requires.parameter.some c.requires.parameter.small)
