use Rattle.mg_laws.proofs.PhraseLaws as laws
use Rattle.mg_laws.proofs.phrases.candidates_are_enough.Goals as goal

pub returns-clause-terms : goal.returns-clause-terms
returns-clause-terms c = laws.all_terms_there

pub returns-clause-query : goal.returns-clause-query
returns-clause-query c = laws.candidates_are_enough
