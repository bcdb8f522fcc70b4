use Rattle.std.proofs.Common.{◌≡◌, codes, ap, arith, slice_index, refl}
use Rattle.std.proofs.lemmas.Result.{IfOk-weaker}
use Rattle.mg_defs.specs.Limits.{least_budget, greatest_budget}
use Rattle.mg_args.specs.Commands.{Gives, name_rule, budget_rule}
use Rattle.mg_args.proofs.CommandLaws.{app_more, plain_start, plain_more, numbers_start, numbers_other, numbers_here}
use Rattle.mg_args.proofs.GivenLaws.{new_start, new_more, wants_here, wants_more, given_by}
use Rattle.mg_args.proofs.command.build_command.Goals as goal

pub returns-clause-app : goal.returns-clause-app
returns-clause-app c = IfOk-weaker _ _ _ (λ n added.
    app_more _ n _ _ _ added c.budget_arg.ensures
    (app_more _ _ _ _ _ c.in_ok-arg-2.ensures c.name_arg-2.ensures
    (app_more _ _ _ _ _ c.in_ok-arg.ensures c.name_arg.ensures c.new.ensures.app))) c.arg-3.ensures

pub returns-clause-plain : goal.returns-clause-plain
returns-clause-plain c = IfOk-weaker _ _ _ (λ n added.
    plain_more _ n _ _ added c.budget_arg.ensures
    (plain_more _ _ _ _ c.in_ok-arg-2.ensures c.name_arg-2.ensures
    (plain_more _ _ _ _ c.in_ok-arg.ensures c.name_arg.ensures
    (plain_start _ c.new.ensures.empty.0 c.new.ensures.empty.1 c.new.ensures.local c.new.ensures.negates)))) c.arg-3.ensures

pub returns-clause-budget : goal.returns-clause-budget
returns-clause-budget c = IfOk-weaker _ _ _ (λ n added.
    numbers_here _ n _ budget_rule (codes "budget") least_budget greatest_budget added c.budget_arg.ensures refl
    (numbers_other _ _ _ (name_rule (codes "name")) (codes "budget") least_budget greatest_budget c.in_ok-arg-2.ensures c.name_arg-2.ensures
    (λ e. let bad : 110 ≡ 98 = ap (λ l. slice_index l 0) e in absurd (omega (arith, bad)))
    (numbers_other _ _ _ (name_rule (codes "collection")) (codes "budget") least_budget greatest_budget c.in_ok-arg.ensures c.name_arg.ensures
    (λ e. let bad : 99 ≡ 98 = ap (λ l. slice_index l 0) e in absurd (omega (arith, bad)))
    (numbers_start _ (codes "budget") least_budget greatest_budget c.new.ensures.empty.0)))) c.arg-3.ensures

pub returns-clause-given : goal.returns-clause-given
returns-clause-given c = IfOk-weaker _ _ (λ n. Gives n (codes "collection") × Gives n (codes "name")) (λ n added. (
  given_by n (codes "collection") (plain_more _ n _ _ added c.budget_arg.ensures
      (plain_more _ _ _ _ c.in_ok-arg-2.ensures c.name_arg-2.ensures (plain_more _ _ _ _ c.in_ok-arg.ensures c.name_arg.ensures
      (plain_start _ c.new.ensures.empty.0 c.new.ensures.empty.1 c.new.ensures.local c.new.ensures.negates))))
      (wants_more _ n _ budget_rule (codes "collection") added c.budget_arg.ensures (λ e. let bad : 98 ≡ 99 = ap (λ l. slice_index l 0) e in absurd (omega (arith, bad)))
      (wants_more _ _ _ (name_rule (codes "name")) (codes "collection") c.in_ok-arg-2.ensures c.name_arg-2.ensures
      (λ e. let bad : 110 ≡ 99 = ap (λ l. slice_index l 0) e in absurd (omega (arith, bad)))
      (wants_here _ _ _ (name_rule (codes "collection")) c.in_ok-arg.ensures c.name_arg.ensures (refl, refl, refl, refl)
      (new_start _ (codes "collection") c.new.ensures.empty.0)))) (λ e. (cc)) (λ e. let bad : 99 ≡ 104 = ap (λ l. slice_index l 0) e in
      absurd (omega (arith, bad))) (λ e. let bad : 99 ≡ 118 = ap (λ l. slice_index l 0) e in absurd (omega (arith, bad))),
  given_by n (codes "name") (plain_more _ n _ _ added c.budget_arg.ensures (plain_more _ _ _ _ c.in_ok-arg-2.ensures c.name_arg-2.ensures (plain_more _ _ _ _ c.in_ok-arg.ensures c.name_arg.ensures
      (plain_start _ c.new.ensures.empty.0 c.new.ensures.empty.1 c.new.ensures.local c.new.ensures.negates))))
      (wants_more _ n _ budget_rule (codes "name") added c.budget_arg.ensures (λ e. let bad : 98 ≡ 110 = ap (λ l. slice_index l 0) e in absurd (omega (arith, bad)))
      (wants_here _ _ _ (name_rule (codes "name")) c.in_ok-arg-2.ensures c.name_arg-2.ensures (refl, refl, refl, refl)
      (new_more _ _ _ (name_rule (codes "collection")) (codes "name") c.in_ok-arg.ensures c.name_arg.ensures
      (λ e. let bad : 99 ≡ 110 = ap (λ l. slice_index l 0) e in absurd (omega (arith, bad))) (new_start _ (codes "name") c.new.ensures.empty.0))))
      (λ e. (cc)) (λ e. let bad : 110 ≡ 104 = ap (λ l. slice_index l 0) e in absurd (omega (arith, bad)))
      (λ e. let bad : 110 ≡ 118 = ap (λ l. slice_index l 0) e in absurd (omega (arith, bad))),
)) c.arg-3.ensures
