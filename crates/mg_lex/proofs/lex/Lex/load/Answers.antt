use Rattle.std.proofs.Common.{◌∙◌}
use Rattle.mg_lex.proofs.LexLaws.{lex_loaded, lexicon_count}
use Rattle.mg_lex.proofs.lex.Lex.load.Goals as goal

pub returns-in-Ok-clause-stands : goal.returns-in-Ok-clause-stands
returns-in-Ok-clause-stands g c = λ collection is. lex_loaded _ _ _ _ _ collection c.in-Ok.ensures.reader c.in-Ok.ensures.files is

pub returns-in-Err-clause-never_bad : goal.returns-in-Err-clause-never_bad
returns-in-Err-clause-never_bad g c = λ collection is. c.in-Err.ensures.stands _ is.told is.lex_at_is (lexicon_count collection ∙ is.terms_are)
