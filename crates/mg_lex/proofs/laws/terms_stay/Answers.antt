use Rattle.mg_lex.proofs.LexLaws.{terms_are_kept}
use Rattle.mg_lex.proofs.laws.terms_stay.Goals as goal

pub returns : goal.returns
returns c = terms_are_kept
