use Rattle.mg_defs.proofs.queries.token_runs.Goals as goal
use Rattle.mg_defs.proofs.TokenLaws.{tokens_word, tokens_other}

pub returns-clause-run : goal.returns-clause-run
returns-clause-run c = λ at b w rest all ends. tokens_word at b w rest all.0 all.1 ends

pub returns-clause-other : goal.returns-clause-other
returns-clause-other c = tokens_other
