use Rattle.std.proofs.Common.{◌≡◌, codes, ap, arith, slice_index, refl}
use Rattle.std.proofs.lemmas.Result.{IfOk-weaker}
use Rattle.mg_defs.specs.Limits.{trial_documents}
use Rattle.mg_args.specs.Commands.{Gives, number_rule}
use Rattle.mg_args.proofs.CommandLaws.{app_more, plain_start, plain_more, numbers_start, numbers_other, numbers_here}
use Rattle.mg_args.proofs.GivenLaws.{new_start, new_more, wants_here, wants_more, given_by}
use Rattle.mg_args.proofs.command.trial_command.Goals as goal

pub returns-clause-app : goal.returns-clause-app
returns-clause-app c = IfOk-weaker _ _ _ (λ n added.
    app_more _ n _ _ _ added c.number_arg-2.ensures
    (app_more _ _ _ _ _ c.in_ok-arg.ensures c.number_arg.ensures c.new.ensures.app)) c.arg-2.ensures

pub returns-clause-plain : goal.returns-clause-plain
returns-clause-plain c = IfOk-weaker _ _ _ (λ n added.
    plain_more _ n _ _ added c.number_arg-2.ensures
    (plain_more _ _ _ _ c.in_ok-arg.ensures c.number_arg.ensures
    (plain_start _ c.new.ensures.empty.0 c.new.ensures.empty.1 c.new.ensures.local c.new.ensures.negates))) c.arg-2.ensures

pub returns-clause-seed : goal.returns-clause-seed
returns-clause-seed c = IfOk-weaker _ _ _ (λ n added.
    numbers_other _ n _ (number_rule (codes "docs") 1 trial_documents) (codes "seed") 0 18446744073709551615 added c.number_arg-2.ensures
    (λ e. let bad : 100 ≡ 115 = ap (λ l. slice_index l 0) e in absurd (omega (arith, bad)))
    (numbers_here _ _ _ (number_rule (codes "seed") 0 18446744073709551615) (codes "seed") 0 18446744073709551615 c.in_ok-arg.ensures c.number_arg.ensures refl
    (numbers_start _ (codes "seed") 0 18446744073709551615 c.new.ensures.empty.0))) c.arg-2.ensures

pub returns-clause-docs : goal.returns-clause-docs
returns-clause-docs c = IfOk-weaker _ _ _ (λ n added.
    numbers_here _ n _ (number_rule (codes "docs") 1 trial_documents) (codes "docs") 1 trial_documents added c.number_arg-2.ensures refl
    (numbers_other _ _ _ (number_rule (codes "seed") 0 18446744073709551615) (codes "docs") 1 trial_documents c.in_ok-arg.ensures c.number_arg.ensures
    (λ e. let bad : 115 ≡ 100 = ap (λ l. slice_index l 0) e in absurd (omega (arith, bad)))
    (numbers_start _ (codes "docs") 1 trial_documents c.new.ensures.empty.0))) c.arg-2.ensures

pub returns-clause-given : goal.returns-clause-given
returns-clause-given c = IfOk-weaker _ _ (λ n. Gives n (codes "seed") × Gives n (codes "docs")) (λ n added. (
  given_by n (codes "seed") (plain_more _ n _ _ added c.number_arg-2.ensures (plain_more _ _ _ _ c.in_ok-arg.ensures c.number_arg.ensures
      (plain_start _ c.new.ensures.empty.0 c.new.ensures.empty.1 c.new.ensures.local c.new.ensures.negates)))
      (wants_more _ n _ (number_rule (codes "docs") 1 trial_documents) (codes "seed") added c.number_arg-2.ensures (λ e. let bad : 100 ≡ 115 = ap (λ l. slice_index l 0) e in absurd (omega (arith, bad)))
      (wants_here _ _ _ (number_rule (codes "seed") 0 18446744073709551615) c.in_ok-arg.ensures c.number_arg.ensures (refl, refl, refl, refl)
      (new_start _ (codes "seed") c.new.ensures.empty.0))) (λ e. (cc)) (λ e. let bad : 115 ≡ 104 = ap (λ l. slice_index l 0) e in
      absurd (omega (arith, bad))) (λ e. let bad : 115 ≡ 118 = ap (λ l. slice_index l 0) e in absurd (omega (arith, bad))),
  given_by n (codes "docs") (plain_more _ n _ _ added c.number_arg-2.ensures (plain_more _ _ _ _ c.in_ok-arg.ensures c.number_arg.ensures
      (plain_start _ c.new.ensures.empty.0 c.new.ensures.empty.1 c.new.ensures.local c.new.ensures.negates)))
      (wants_here _ n _ (number_rule (codes "docs") 1 trial_documents) added c.number_arg-2.ensures (refl, refl, refl, refl)
      (new_more _ _ _ (number_rule (codes "seed") 0 18446744073709551615) (codes "docs") c.in_ok-arg.ensures c.number_arg.ensures
      (λ e. let bad : 115 ≡ 100 = ap (λ l. slice_index l 0) e in absurd (omega (arith, bad))) (new_start _ (codes "docs") c.new.ensures.empty.0)))
      (λ e. (cc)) (λ e. let bad : 100 ≡ 104 = ap (λ l. slice_index l 0) e in absurd (omega (arith, bad)))
      (λ e. let bad : 100 ≡ 118 = ap (λ l. slice_index l 0) e in absurd (omega (arith, bad))),
)) c.arg-2.ensures
