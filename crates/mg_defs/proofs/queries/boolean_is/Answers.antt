use Rattle.mg_defs.proofs.queries.boolean_is.Goals as goal
use Rattle.mg_defs.proofs.BooleanLaws.{reads-accepted, accepted-computes, refused-refusal, refusal-computes}

pub returns-clause-accepted : goal.returns-clause-accepted
returns-clause-accepted c = λ line q. (reads-accepted line q, accepted-computes line q)

pub returns-clause-refused : goal.returns-clause-refused
returns-clause-refused c = λ line why. (refused-refusal line why, refusal-computes line why)
