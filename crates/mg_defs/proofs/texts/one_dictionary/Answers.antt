use Rattle.mg_defs.proofs.texts.one_dictionary.Goals as goal
use Rattle.mg_defs.proofs.TermLaws.{dictionary-is, dictionary-of_words, distinct-terms_short}

pub returns-clause-is : goal.returns-clause-is
returns-clause-is c = dictionary-is

pub returns-clause-words : goal.returns-clause-words
returns-clause-words c = dictionary-of_words

pub returns-clause-no_more : goal.returns-clause-no_more
returns-clause-no_more c = distinct-terms_short
