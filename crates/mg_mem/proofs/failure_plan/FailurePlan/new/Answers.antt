use Rattle.std.proofs.Common.{refl}
use Rattle.mg_mem.specs.Plans.{calls_of, keep_at}
use Rattle.mg_mem.proofs.failure_plan.FailurePlan.new.Goals as goal

pub returns-clause-calls : goal.returns-clause-calls
unfolding calls_of
returns-clause-calls c = refl

pub returns-clause-none : goal.returns-clause-none
unfolding keep_at
returns-clause-none c = λ n. rw c.new.ensures.items refl
