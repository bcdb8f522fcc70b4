use Rattle.std.proofs.Common.{arith}
use Rattle.std.proofs.Math.Pow.{pow-lt}
use Rattle.mg_codes.proofs.ShortWalk.{one_shifted}
use Rattle.mg_codes.proofs.gamma.power_of.Goals as goal

pub returns-clause-small : goal.returns-clause-small
returns-clause-small c = rw (one_shifted c.args.exponent (omega arith)) (pow-lt c.requires)
