use Rattle.mg_laws.proofs.DocCountLaws as laws
use Rattle.mg_laws.proofs.counts.documents_are_counted.Goals as goal

pub returns-clause-all : goal.returns-clause-all
returns-clause-all c = laws.docs_are_counted

pub returns-clause-more : goal.returns-clause-more
returns-clause-more c = laws.docs_more

pub returns-clause-last : goal.returns-clause-last
returns-clause-last c = laws.last_more

pub returns-clause-order : goal.returns-clause-order
returns-clause-order c = laws.met_in_order

pub returns-clause-low : goal.returns-clause-low
returns-clause-low c = laws.last_is_low
