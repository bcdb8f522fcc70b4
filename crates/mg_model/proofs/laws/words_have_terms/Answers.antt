use Rattle.std.proofs.Common.{sym}
use Rattle.mg_model.proofs.Lists.{there-is}
use Rattle.mg_model.proofs.Numbering.{has-number, number-of_symbol}
use Rattle.mg_model.proofs.laws.words_have_terms.Goals as goal

pub returns-clause-word : goal.returns-clause-word
returns-clause-word c = λ words word among some. has-number words among.0 word (there-is words among.0 word among.1 (sym among.2)) some

pub returns-clause-symbol : goal.returns-clause-symbol
returns-clause-symbol c = has-number

pub returns-clause-number : goal.returns-clause-number
returns-clause-number c = number-of_symbol
