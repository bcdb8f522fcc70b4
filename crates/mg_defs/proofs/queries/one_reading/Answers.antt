use Rattle.mg_defs.proofs.queries.one_reading.Goals as goal
use Rattle.mg_defs.proofs.BooleanLaws.{some-answer, not-both, one-accepted, one-refusal}

pub returns-clause-some : goal.returns-clause-some
returns-clause-some c = some-answer

pub returns-clause-not_both : goal.returns-clause-not_both
returns-clause-not_both c = not-both

pub returns-clause-query : goal.returns-clause-query
returns-clause-query c = one-accepted

pub returns-clause-refusal : goal.returns-clause-refusal
returns-clause-refusal c = one-refusal
