use Rattle.mg_defs.proofs.FirstLaws.{score_of_distinct, hits_of_distinct}
use Rattle.mg_defs.proofs.weights.terms_count_once.Goals as goal

pub returns-clause-score : goal.returns-clause-score
returns-clause-score c = score_of_distinct

pub returns-clause-hits : goal.returns-clause-hits
returns-clause-hits c = hits_of_distinct
