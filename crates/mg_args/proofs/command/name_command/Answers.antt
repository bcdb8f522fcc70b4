use Rattle.std.proofs.Common.{refl}
use Rattle.std.proofs.lemmas.Result.{IfOk-weaker}
use Rattle.mg_args.specs.Commands.{Gives, name_rule}
use Rattle.mg_args.proofs.CommandLaws.{plain_start, plain_more}
use Rattle.mg_args.proofs.GivenLaws.{new_start, wants_here, given_by}
use Rattle.mg_args.proofs.command.name_command.Goals as goal

pub returns-clause-given : goal.returns-clause-given
returns-clause-given c = IfOk-weaker _ _ (λ n. Gives n c.args.id.now) (λ n added.
    given_by n c.args.id.now (plain_more _ n _ _ added c.name_arg.ensures (plain_start _ c.new.ensures.empty.0 c.new.ensures.empty.1 c.new.ensures.local c.new.ensures.negates))
    (wants_here _ n _ (name_rule c.args.id.now) added c.name_arg.ensures (refl, refl, refl, refl) (new_start _ c.args.id.now c.new.ensures.empty.0))
    c.requires.0 c.requires.1 c.requires.2) c.arg.ensures
