use Rattle.mg_defs.proofs.TopLaws as laws
use Rattle.mg_defs.proofs.weights.one_ranking.Goals as goal

pub returns-clause-sorted : goal.returns-clause-sorted
returns-clause-sorted c = laws.ranking_sorted

pub returns-clause-permutes : goal.returns-clause-permutes
returns-clause-permutes c = laws.ranking_permutes

pub returns-clause-only : goal.returns-clause-only
returns-clause-only c = laws.one_ranking
