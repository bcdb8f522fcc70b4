use Rattle.std.proofs.Common.{rules}
use Rattle.mg_args.proofs.CommandLaws.{taken_by, rows_by, refused_by}
use Rattle.mg_args.proofs.command.matches_by.Goals as goal

pub returns-in-Ok-clause-taken : goal.returns-in-Ok-clause-taken
returns-in-Ok-clause-taken c = taken_by _ _ (c.in-Ok.ensures.kinds c.requires.simple)

pub returns-in-Ok-clause-values : goal.returns-in-Ok-clause-values
returns-in-Ok-clause-values c = rows_by _ _ _ (c.in-Ok.ensures.matches c.requires.alone).0

pub returns-in-Err-clause-refused : goal.returns-in-Err-clause-refused
returns-in-Err-clause-refused c = λ is. refused_by _ _ c.in-Err.error (c.in-Err.ensures.kinds c.requires.simple) (c.cause_of.ensures.refused (search (rules, is)))
