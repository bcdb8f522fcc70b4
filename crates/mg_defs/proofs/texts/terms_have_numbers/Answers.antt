use Rattle.mg_defs.proofs.texts.terms_have_numbers.Goals as goal
use Rattle.mg_defs.proofs.TermLaws.{term-number, term-of_number, no-term}

pub returns-clause-within : goal.returns-clause-within
returns-clause-within c = λ collection t there. (term-number collection t there).0

pub returns-clause-place : goal.returns-clause-place
returns-clause-place c = λ collection t there. (term-number collection t there).1

pub returns-clause-back : goal.returns-clause-back
returns-clause-back c = term-of_number

pub returns-clause-none : goal.returns-clause-none
returns-clause-none c = no-term
