use Rattle.std.proofs.Common.{refl, ◌∙◌, ap, fold}
use Rattle.mg_mem.specs.Plans.{calls_of, keep_at, keep_of, keep_from}
use Rattle.mg_mem.proofs.failure_plan.FailurePlan.begin.Goals as goal

pub returns-clause-keep : goal.returns-clause-keep
unfolding keep_at calls_of
returns-clause-keep c = c.last_keep.ensures ∙ ap (fold (keep_of c.args.self.now.calls) (keep_from c.args.self.now.fails_from c.args.self.now.calls)) c.deref.ensures.value

pub returns-clause-counted : goal.returns-clause-counted
unfolding keep_at calls_of
returns-clause-counted c = record { calls = c.saturating_add-self.ensures; others = λ n. refl }
