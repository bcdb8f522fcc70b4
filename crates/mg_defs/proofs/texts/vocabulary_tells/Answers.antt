use Rattle.mg_defs.proofs.texts.vocabulary_tells.Goals as goal
use Rattle.mg_defs.proofs.VocabularyLaws.{sorted-of_vocabulary, counts-of_vocabulary}
use Rattle.mg_defs.specs.Vocabulary.{all_pieces}

pub returns-clause-pieces : goal.returns-clause-pieces
returns-clause-pieces c = λ kind collection. sorted-of_vocabulary (all_pieces kind collection)

pub returns-clause-counts : goal.returns-clause-counts
returns-clause-counts c = λ kind collection. counts-of_vocabulary (all_pieces kind collection)
