use Rattle.mg_defs.proofs.queries.one_cause.Goals as goal
use Rattle.mg_defs.proofs.BooleanLaws.{one-cause}
use Rattle.mg_defs.proofs.RankedLaws.{one-term-cause}

pub returns-clause-boolean : goal.returns-clause-boolean
returns-clause-boolean c = one-cause

pub returns-clause-ranked : goal.returns-clause-ranked
returns-clause-ranked c = one-term-cause
