use Rattle.std.proofs.Common.{rules}
use Rattle.clap.specs.Words.{found_of}
use Rattle.mg_args.proofs.ReadLaws.{no_name, empty_name, full_name, is_empty, not_there}
use Rattle.mg_args.proofs.taken.name_of.Goals as goal

pub returns-in_default-clause-is : goal.returns-in_default-clause-is
returns-in_default-clause-is c = no_name (found_of c.args.matches.now) c.args.id.now (search rules)

pub returns-then-is_empty-clause-is : goal.returns-then-is_empty-clause-is
returns-then-is_empty-clause-is c = empty_name (found_of c.args.matches.now) c.args.id.now c.in-Some.name.now (search rules) (search rules)

pub returns-clause-is : goal.returns-clause-is
returns-clause-is c = full_name (found_of c.args.matches.now) c.args.id.now c.in-Some.name.now (search rules) (search rules)

pub returns-in_default-clause-empty : goal.returns-in_default-clause-empty
returns-in_default-clause-empty c = λ none there. not_there (found_of c.args.matches.now) c.args.id.now _ (search rules) there

pub returns-then-is_empty-clause-empty : goal.returns-then-is_empty-clause-empty
returns-then-is_empty-clause-empty c = λ none there. is_empty (found_of c.args.matches.now) c.args.id.now c.in-Some.name.now (search rules) (search rules)
