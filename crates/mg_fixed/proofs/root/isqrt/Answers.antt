use Rattle.mg_fixed.proofs.Steps.{root_from}
use Rattle.mg_fixed.proofs.root.isqrt.Goals as goal

pub returns-clause-is : goal.returns-clause-is
returns-clause-is c = root_from c.args.x c.isqrt.result c.ranges.x.fits c.isqrt.ensures.square_le c.isqrt.ensures.next_square_gt
