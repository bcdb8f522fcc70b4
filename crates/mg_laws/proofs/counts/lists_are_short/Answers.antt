use Rattle.mg_laws.proofs.DocCountLaws as laws
use Rattle.mg_laws.proofs.counts.lists_are_short.Goals as goal

pub returns-clause-terms : goal.returns-clause-terms
returns-clause-terms c = laws.terms_are_short

pub returns-clause-words : goal.returns-clause-words
returns-clause-words c = laws.terms_are_few

pub returns-clause-each : goal.returns-clause-each
returns-clause-each c = laws.lists_are_short

pub returns-clause-all : goal.returns-clause-all
returns-clause-all c = laws.lists_together
