use Rattle.std.proofs.Common.{Ok, ◌≤◌}
use Rattle.mg_runs.specs.Merging.{left_together}
use Rattle.mg_runs.specs.Reading.{ForTaken, GroupGathering}
use Rattle.mg_runs.specs.Steps.{GroupStep}
use Rattle.mg_runs.proofs.group.Group.gathered.Given as goal

abbrev pub invariant-loop-run : goal.invariant-loop-run
invariant-loop-run g l = record {
  step : GroupStep {T = Unit {0}} l.initial.self l.self (Ok tt) (g.S.Store.files l.initial.store) (g.S.Store.files l.store) (g.S.Store.reads l.initial.store)
      (g.S.Store.reads l.store) (g.S.Store.faults l.initial.store) (g.S.Store.faults l.store);
  told : ForTaken l.first l.initial.self (g.S.Store.files l.initial.store) (λ bytes base. GroupGathering l.self bytes l.first base l.count);
  count : l.first.count ≤ l.count;
}

abbrev pub decreases-loop-run : goal.decreases-loop-run
decreases-loop-run g l = left_together l.self.cursors.items
