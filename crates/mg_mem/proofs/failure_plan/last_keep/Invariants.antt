use Rattle.std.proofs.Common.{◌≡◌, fold, take}
use Rattle.mg_mem.specs.Plans.{keep_of, keep_from}
use Rattle.mg_mem.proofs.failure_plan.last_keep.Given as goal

abbrev pub invariant-loop-failure : goal.invariant-loop-failure
invariant-loop-failure l = l.keep ≡ fold (keep_of l.call) (keep_from l.fn.from l.call) (take l.failure-index l.planned)
