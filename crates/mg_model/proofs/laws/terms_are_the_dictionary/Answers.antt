use Rattle.std.proofs.Common.{sym}
use Rattle.mg_defs.proofs.TermLaws.{dictionary-of_words}
use Rattle.mg_model.proofs.Collections.{no-term}
use Rattle.mg_model.proofs.laws.terms_are_the_dictionary.Goals as goal

pub returns-clause-terms : goal.returns-clause-terms
returns-clause-terms c = λ collection. sym (dictionary-of_words collection)

pub returns-clause-none : goal.returns-clause-none
returns-clause-none c = no-term
