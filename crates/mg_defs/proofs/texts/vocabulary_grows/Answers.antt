use Rattle.mg_defs.proofs.texts.vocabulary_grows.Goals as goal
use Rattle.mg_defs.proofs.VocabularyLaws.{vocabulary-push, length-of_vocabulary, total-of_vocabulary, counts-positive}

pub returns-clause-piece : goal.returns-clause-piece
returns-clause-piece c = vocabulary-push

pub returns-clause-length : goal.returns-clause-length
returns-clause-length c = length-of_vocabulary

pub returns-clause-total : goal.returns-clause-total
returns-clause-total c = total-of_vocabulary

pub returns-clause-counts : goal.returns-clause-counts
returns-clause-counts c = counts-positive
