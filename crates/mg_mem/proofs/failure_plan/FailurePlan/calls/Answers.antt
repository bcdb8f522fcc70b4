use Rattle.std.proofs.Common.{refl}
use Rattle.mg_mem.specs.Plans.{calls_of}
use Rattle.mg_mem.proofs.failure_plan.FailurePlan.calls.Goals as goal

pub returns : goal.returns
unfolding calls_of
returns c = refl
