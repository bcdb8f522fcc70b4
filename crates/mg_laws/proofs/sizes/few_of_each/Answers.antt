use Rattle.mg_laws.proofs.SizeLaws as laws
use Rattle.mg_laws.proofs.sizes.few_of_each.Goals as goal

pub returns-clause-occurrences : goal.returns-clause-occurrences
returns-clause-occurrences c = laws.few_occurrences

pub returns-clause-all : goal.returns-clause-all
returns-clause-all c = laws.occurrences_are_terms

pub returns-clause-terms : goal.returns-clause-terms
returns-clause-terms c = laws.few_terms

pub returns-clause-postings : goal.returns-clause-postings
returns-clause-postings c = laws.few_postings

pub returns-clause-entries : goal.returns-clause-entries
returns-clause-entries c = laws.few_entries

pub returns-clause-pairs : goal.returns-clause-pairs
returns-clause-pairs c = laws.few_pairs
