use Rattle.std.proofs.Common.{◌∙◌, sym}
use Rattle.std.specs.Str.Parse.{ParsesUnsigned, ExplainsUnsignedError, HasUnsignedDigitsIfOk}
use Rattle.clap.specs.Words.{found_of}
use Rattle.mg_args.proofs.ReadLaws.{number_read, number_there}
use Rattle.mg_args.proofs.taken.number_of.Goals as goal

pub returns-clause-is : goal.returns-clause-is
returns-clause-is c = number_read _ (λ bs r. ParsesUnsigned 64 10 bs r × ExplainsUnsignedError 10 bs r × HasUnsignedDigitsIfOk bs r) (found_of c.args.matches.now) c.args.id.now c.get_one.result
    c.get_one.ensures.none c.get_one.ensures.value (λ t x g. g.0) c.requires

pub returns-clause-there : goal.returns-clause-there
returns-clause-there c = λ there none. number_there (found_of c.args.matches.now) c.args.id.now there
    (sym (number_read _ (λ bs r. ParsesUnsigned 64 10 bs r × ExplainsUnsignedError 10 bs r × HasUnsignedDigitsIfOk bs r) (found_of c.args.matches.now) c.args.id.now c.get_one.result
    c.get_one.ensures.none c.get_one.ensures.value (λ t x g. g.0) c.requires) ∙ none)
