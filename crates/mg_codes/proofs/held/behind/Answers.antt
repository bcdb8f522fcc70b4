use Rattle.std.proofs.Common.{arith}
use Rattle.mg_codes.proofs.FirstCodes.{behind_below}
use Rattle.mg_codes.proofs.held.behind.Goals as goal

pub overflow_mul-result : goal.overflow_mul-result
overflow_mul-result c = rw (c.power.ensures, c.power-2.ensures) (omega (arith, behind_below c.args.next c.args.size c.requires.size))

pub returns-clause-below : goal.returns-clause-below
returns-clause-below c = rw (c.power.ensures, c.power-2.ensures) (behind_below c.args.next c.args.size c.requires.size)
