use Rattle.std.proofs.Common.{◌≤◌, ◌-◌, Ok, length, take}
use Rattle.mg_make.specs.SetSteps.{SliceStep}
use Rattle.mg_make.proofs.writer.SetWriter.take_all.Given as goal

abbrev pub invariant-loop-taken : goal.invariant-loop-taken
invariant-loop-taken g l = record {
  within : l.taken ≤ length l.bytes;
  step : SliceStep l.fn.self l.self (take l.taken l.bytes) (Ok tt) (g.S.Store.files l.fn.store) (g.S.Store.files l.store) (g.S.Store.reads l.fn.store) (g.S.Store.reads l.store)
      (g.S.Store.faults l.fn.store) (g.S.Store.faults l.store);
}

abbrev pub decreases-loop-taken : goal.decreases-loop-taken
decreases-loop-taken g l = length l.bytes - l.taken
