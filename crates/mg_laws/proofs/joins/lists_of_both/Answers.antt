use Rattle.mg_laws.proofs.JoinLaws as laws
use Rattle.mg_laws.proofs.joins.lists_of_both.Goals as goal

pub returns-clause-postings : goal.returns-clause-postings
returns-clause-postings c = laws.postings_joined

pub returns-clause-occurrences : goal.returns-clause-occurrences
returns-clause-occurrences c = laws.occurrences_joined
