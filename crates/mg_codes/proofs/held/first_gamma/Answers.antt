use Rattle.mg_codes.proofs.FirstCodes.{gamma_first}
use Rattle.mg_codes.proofs.held.first_gamma.Goals as goal

pub returns-clause-code : goal.returns-clause-code
returns-clause-code c = rw c.power-highest.ensures (gamma_first c.args.next c.in-Some.ones c.in-Some.ensures c.if-ones-gt28.false)
