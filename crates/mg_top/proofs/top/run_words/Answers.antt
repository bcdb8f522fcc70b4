use Rattle.std.proofs.Common.{◌≡◌, ◌∙◌, None, Ok, option_map, ap, inl, refl, rules, sym}
use Rattle.mg_args.specs.Tasks.{as_task}
use Rattle.mg_top.proofs.Asked.{ran_by, ran_refused}
use Rattle.mg_top.proofs.NothingDone.{ran_nothing}
use Rattle.mg_top.proofs.top.run_words.Goals as goal

pub returns-in-Err : goal.returns-in-Err
returns-in-Err g c = λ err err_now told. ran_nothing _ refl refl refl refl _ told

pub returns-in-Ok-None : goal.returns-in-Ok-None
returns-in-Ok-None g c =
    let none : c.in-Ok-None.field-0 ≡ None = search rules in
    λ err err_now told. ran_refused _ _ (sym (ap (option_map as_task) none) ∙ c.in-Ok-None.ensures.is) (c.in-Ok-None.ensures.refused (ap Ok none))
    (record { status = inl refl; store = refl; input = refl; out = refl }) told

pub returns-in-Ok-Some : goal.returns-in-Ok-Some
returns-in-Ok-Some g c = λ err err_now told. ran_by _ (as_task c.in-Ok-Some.task) _ (search rules) (c.run_task.ensures err err_now) told
