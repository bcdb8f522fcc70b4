use Rattle.mg_defs.proofs.LexiconLaws.{lexicon_entries, lexicon_long, lexicon_at, lexicon_of}
use Rattle.mg_defs.proofs.lexicon.terms_are_entries.Goals as goal

pub returns-clause-entries : goal.returns-clause-entries
returns-clause-entries c = lexicon_entries

pub returns-clause-count : goal.returns-clause-count
returns-clause-count c = lexicon_long

pub returns-clause-term : goal.returns-clause-term
returns-clause-term c = lexicon_at

pub returns-clause-string : goal.returns-clause-string
returns-clause-string c = λ collection i e is. (lexicon_of collection i e is).0

pub returns-clause-field : goal.returns-clause-field
returns-clause-field c = λ collection i e is. (lexicon_of collection i e is).1
