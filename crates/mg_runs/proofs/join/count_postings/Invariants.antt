use Rattle.std.proofs.Common.{Ok, ◌<◌, ◌^◌}
use Rattle.mg_runs.specs.Merging.{left_together}
use Rattle.mg_runs.specs.Reading.{ForLeft, GroupCounting, GroupShaped}
use Rattle.mg_runs.specs.Steps.{GroupLook}
use Rattle.mg_runs.proofs.join.count_postings.Given as goal

abbrev pub invariant-loop-count : goal.invariant-loop-count
invariant-loop-count g l = record {
  shape : GroupShaped l.group;
  read : GroupLook {T = Unit {0}} l.initial.group l.group (Ok tt) (g.S.Store.files l.initial.store) (g.S.Store.files l.store) (g.S.Store.reads l.initial.store)
      (g.S.Store.reads l.store) (g.S.Store.faults l.initial.store) (g.S.Store.faults l.store);
  few : l.count < 2 ^ 32;
  told : ForLeft l.initial.group (g.S.Store.files l.initial.store) (λ bytes left. GroupCounting l.group bytes left l.count);
}

abbrev pub decreases-loop-count : goal.decreases-loop-count
decreases-loop-count g l = left_together l.group.cursors.items
