use Rattle.std.proofs.Common.{arith}
use Rattle.mg_post.proofs.AheadLaws.{ceil_of_more, ceil_of_one, exponent_small}
use Rattle.mg_post.proofs.ahead.longer_size.Goals as goal

pub returns-then-parameter-le1-clause-size : goal.returns-then-parameter-le1-clause-size
returns-then-parameter-le1-clause-size c = ceil_of_one c.args.parameter.value c.args.parameter.some c.if-parameter-le1.true

pub returns-else-parameter-le1-clause-size : goal.returns-else-parameter-le1-clause-size
returns-else-parameter-le1-clause-size c = ceil_of_more c.args.parameter.value c.ilog2.result c.if-parameter-le1.false c.args.parameter.small c.ilog2.ensures.power_le c.ilog2.ensures.next_power_gt

pub returns-else-parameter-le1-clause-small : goal.returns-else-parameter-le1-clause-small
returns-else-parameter-le1-clause-small c = omega (arith, exponent_small c.args.parameter.value c.ilog2.result c.args.parameter.small c.ilog2.ensures.power_le)
