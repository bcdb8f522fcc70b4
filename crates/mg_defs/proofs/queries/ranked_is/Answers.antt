use Rattle.mg_defs.proofs.queries.ranked_is.Goals as goal
use Rattle.mg_defs.proofs.RankedLaws.{reads-list, list-computes, refused-term-refusal, term-refusal-computes}

pub returns-clause-accepted : goal.returns-clause-accepted
returns-clause-accepted c = λ line terms. (reads-list line terms, list-computes line terms)

pub returns-clause-refused : goal.returns-clause-refused
returns-clause-refused c = λ line why. (refused-term-refusal line why, term-refusal-computes line why)
