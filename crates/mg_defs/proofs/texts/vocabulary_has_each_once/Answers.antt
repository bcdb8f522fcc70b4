use Rattle.mg_defs.proofs.texts.vocabulary_has_each_once.Goals as goal
use Rattle.mg_defs.proofs.VocabularyLaws.{distinct-keys, came-exactly, entry-count, sorted-of_vocabulary, counts-of_vocabulary}

pub returns-clause-distinct : goal.returns-clause-distinct
returns-clause-distinct c = distinct-keys

pub returns-clause-came : goal.returns-clause-came
returns-clause-came c = came-exactly

pub returns-clause-count : goal.returns-clause-count
returns-clause-count c = entry-count

pub returns-clause-sorted : goal.returns-clause-sorted
returns-clause-sorted c = sorted-of_vocabulary

pub returns-clause-counts : goal.returns-clause-counts
returns-clause-counts c = counts-of_vocabulary
