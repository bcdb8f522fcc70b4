use Rattle.mg_defs.proofs.queries.one_term_list.Goals as goal
use Rattle.mg_defs.proofs.RankedLaws.{some-terms, terms-not-both, one-term-list, one-term-refusal, terms-apart}

pub returns-clause-some : goal.returns-clause-some
returns-clause-some c = some-terms

pub returns-clause-not_both : goal.returns-clause-not_both
returns-clause-not_both c = terms-not-both

pub returns-clause-terms : goal.returns-clause-terms
returns-clause-terms c = one-term-list

pub returns-clause-refusal : goal.returns-clause-refusal
returns-clause-refusal c = one-term-refusal

pub returns-clause-apart : goal.returns-clause-apart
returns-clause-apart c = terms-apart
