use Rattle.mg_laws.proofs.BoundsInWords as laws
use Rattle.mg_laws.proofs.bounds.bounds_in_words.Goals as goal

pub returns-clause-own : goal.returns-clause-own
returns-clause-own c = laws.own_pages

pub returns-clause-any : goal.returns-clause-any
returns-clause-any c = laws.any_pages

pub returns-clause-word : goal.returns-clause-word
returns-clause-word c = laws.word_bound

pub returns-clause-first : goal.returns-clause-first
returns-clause-first c = laws.first_bound

pub returns-clause-second : goal.returns-clause-second
returns-clause-second c = laws.second_bound

pub returns-clause-unled : goal.returns-clause-unled
returns-clause-unled c = laws.unled_bound
