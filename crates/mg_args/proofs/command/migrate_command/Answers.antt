use Rattle.std.proofs.Common.{◌≡◌, codes, ap, arith, slice_index, refl}
use Rattle.std.proofs.lemmas.Result.{IfOk-weaker}
use Rattle.mg_args.specs.Commands.{Gives, IsPlainCommand, name_rule}
use Rattle.mg_args.proofs.CommandLaws.{app_more, plain_start, plain_more}
use Rattle.mg_args.proofs.GivenLaws.{new_start, new_more, wants_here, wants_more, given_by}
use Rattle.mg_args.proofs.command.migrate_command.Goals as goal

pub returns-clause-app : goal.returns-clause-app
returns-clause-app c = IfOk-weaker _ _ _ (λ n added.
    app_more _ n _ _ _ added c.name_arg-2.ensures
    (app_more _ _ _ _ _ c.in_ok-arg.ensures c.name_arg.ensures c.new.ensures.app)) c.arg-2.ensures

pub returns-clause-given : goal.returns-clause-given
returns-clause-given c = IfOk-weaker _ _ (λ n. Gives n (codes "name") × Gives n (codes "new")) (λ n added.
    let plain : IsPlainCommand n = plain_more _ n _ _ added c.name_arg-2.ensures
    (plain_more _ _ _ _ c.in_ok-arg.ensures c.name_arg.ensures
    (plain_start _ c.new.ensures.empty.0 c.new.ensures.empty.1 c.new.ensures.local c.new.ensures.negates)) in (
      given_by n (codes "name") plain
          (wants_more _ n _ (name_rule (codes "new")) (codes "name") added c.name_arg-2.ensures (λ e. let bad : 101 ≡ 97 = ap (λ l. slice_index l 1) e in absurd (omega (arith, bad)))
          (wants_here _ _ _ (name_rule (codes "name")) c.in_ok-arg.ensures c.name_arg.ensures (refl, refl, refl, refl)
          (new_start _ (codes "name") c.new.ensures.empty.0))) (λ e. (cc)) (λ e. let bad : 110 ≡ 104 = ap (λ l. slice_index l 0) e in
          absurd (omega (arith, bad))) (λ e. let bad : 110 ≡ 118 = ap (λ l. slice_index l 0) e in absurd (omega (arith, bad))),
      given_by n (codes "new") plain
          (wants_here _ n _ (name_rule (codes "new")) added c.name_arg-2.ensures (refl, refl, refl, refl)
          (new_more _ _ _ (name_rule (codes "name")) (codes "new") c.in_ok-arg.ensures c.name_arg.ensures
          (λ e. let bad : 97 ≡ 101 = ap (λ l. slice_index l 1) e in absurd (omega (arith, bad))) (new_start _ (codes "new") c.new.ensures.empty.0)))
          (λ e. (cc)) (λ e. let bad : 110 ≡ 104 = ap (λ l. slice_index l 0) e in absurd (omega (arith, bad)))
          (λ e. let bad : 110 ≡ 118 = ap (λ l. slice_index l 0) e in absurd (omega (arith, bad))),
    )) c.arg-2.ensures
