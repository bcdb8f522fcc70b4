use Rattle.std.proofs.Common.{length, ◌-◌}
use Rattle.mg_runs.specs.OnRun.{IsOnRun}
use Rattle.mg_runs.proofs.run.put_list.Given as goal

abbrev pub invariant-loop-from : goal.invariant-loop-from
invariant-loop-from g l =
    IsOnRun g.S.Store.files g.S.Store.reads g.S.Store.faults l.fn.store l.store l.fn.w l.w l.entries l.from l.last

abbrev pub decreases-loop-from : goal.decreases-loop-from
decreases-loop-from g l = length l.entries - l.from
