use Rattle.mg_laws.proofs.PhraseLaws as laws
use Rattle.mg_laws.proofs.phrases.phrase_is.Goals as goal

pub returns-clause-reads : goal.returns-clause-reads
returns-clause-reads c = laws.reads_phrase

pub returns-clause-refuses : goal.returns-clause-refuses
returns-clause-refuses c = laws.refuses_phrase

pub returns-clause-computed : goal.returns-clause-computed
returns-clause-computed c = laws.phrase_computes

pub returns-clause-stops : goal.returns-clause-stops
returns-clause-stops c = laws.phrase_refusal_computes
