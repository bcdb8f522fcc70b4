use Rattle.std.proofs.Common.{◌≤◌, ◌<◌, ◌-◌, ◌+◌, Ok, length}
use Rattle.mg_count.specs.Whole.{between}
use Rattle.mg_make.specs.SetSteps.{SliceStep}
use Rattle.mg_make.proofs.writer.SetWriter.take_pieces.Given as goal

abbrev pub invariant-loop-at : goal.invariant-loop-at
invariant-loop-at g l = record {
  after : l.from ≤ l.at;
  within : l.at < length l.bytes;
  step : SliceStep l.fn.self l.self (between (l.from + 1) (l.at + 1) l.bytes) (Ok tt) (g.S.Store.files l.fn.store) (g.S.Store.files l.store) (g.S.Store.reads l.fn.store)
      (g.S.Store.reads l.store) (g.S.Store.faults l.fn.store) (g.S.Store.faults l.store);
}

abbrev pub decreases-loop-at : goal.decreases-loop-at
decreases-loop-at g l = length l.bytes - l.at
