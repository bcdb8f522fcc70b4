use Rattle.mg_bool.proofs.BoundLaws as laws
use Rattle.mg_bool.proofs.laws.query_bound_is_the_lesser.Goals as goal

pub returns-clause-blocks : goal.returns-clause-blocks
returns-clause-blocks c = laws.within_blocks

pub returns-clause-spans : goal.returns-clause-spans
returns-clause-spans c = laws.within_spans
