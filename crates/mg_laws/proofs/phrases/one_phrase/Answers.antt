use Rattle.mg_laws.proofs.PhraseLaws as laws
use Rattle.mg_laws.proofs.phrases.one_phrase.Goals as goal

pub returns-clause-some : goal.returns-clause-some
returns-clause-some c = laws.some_phrase

pub returns-clause-not_both : goal.returns-clause-not_both
returns-clause-not_both c = laws.phrase_not_both

pub returns-clause-phrase : goal.returns-clause-phrase
returns-clause-phrase c = laws.one_phrase_list

pub returns-clause-refusal : goal.returns-clause-refusal
returns-clause-refusal c = laws.one_phrase_refusal
