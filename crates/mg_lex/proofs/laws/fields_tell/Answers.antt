use Rattle.mg_lex.proofs.LexLaws.{same_info}
use Rattle.mg_lex.proofs.InfoLaws.{fields_fit}
use Rattle.mg_lex.proofs.laws.fields_tell.Goals as goal

pub returns-clause-same : goal.returns-clause-same
returns-clause-same c = same_info

pub returns-clause-fit : goal.returns-clause-fit
returns-clause-fit c = fields_fit
