use Rattle.mg_lex.proofs.LexLaws.{entries_of_terms, lex_fits, lex_stays, written_is}
use Rattle.mg_lex.proofs.CallerLemmas.{terms_long}
use Rattle.mg_lex.proofs.laws.lexicon_has_its_terms.Goals as goal

pub returns-clause-entries : goal.returns-clause-entries
returns-clause-entries c = entries_of_terms

pub returns-clause-count : goal.returns-clause-count
returns-clause-count c = terms_long

pub returns-clause-stays : goal.returns-clause-stays
returns-clause-stays c = λ lex now collection same files files_now told strings places stands. lex_stays lex now files files_now collection same told strings places stands

pub returns-clause-fits : goal.returns-clause-fits
returns-clause-fits c = lex_fits

pub returns-clause-written : goal.returns-clause-written
returns-clause-written c = λ base files collection written. written_is base files collection written.told written.stand written.few
