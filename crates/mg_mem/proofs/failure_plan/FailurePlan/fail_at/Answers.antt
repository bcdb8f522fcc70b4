use Rattle.std.proofs.Common.{refl, OnErr, Ok, Err}
use Rattle.std.specs.declared.result.Result.{Result}
use Rattle.mg_mem.specs.declared.failure_plan.PlannedFailure.{PlannedFailure}
use Rattle.mg_mem.specs.Plans.{SamePlan, calls_of, keep_at, keep_from}
use Rattle.mg_mem.proofs.PlanLaws.{keep-here, keep-other}
use Rattle.mg_mem.proofs.failure_plan.FailurePlan.fail_at.Goals as goal

on_err : {T E : Type 0} (r : Result T E) (P : Type 0) → P → OnErr r P
on_err (Ok x) P p = tt
on_err (Err e) P p = p

pub returns-in_err-push-clause-err : goal.returns-in_err-push-clause-err
unfolding keep_at calls_of
returns-in_err-push-clause-err c =
    let same : SamePlan c.args.self.now record c.args.self.now { planned = c.push.new.self } = record { calls = refl; others = λ n. rw c.in_err-push.ensures.items refl } in
    on_err _ _ same

pub returns-clause-ok : goal.returns-clause-ok
unfolding keep_at calls_of
returns-clause-ok c =
    let new : PlannedFailure = record { call = c.args.call; keep = c.args.keep } in
    record {
      calls = refl;
      here = rw c.in_ok-push.ensures.items (keep-here c.args.self.now.planned.items new (keep_from c.args.self.now.fails_from c.args.call));
      others = λ n apart. rw c.in_ok-push.ensures.items (keep-other c.args.self.now.planned.items new n (keep_from c.args.self.now.fails_from n) apart);
    }
