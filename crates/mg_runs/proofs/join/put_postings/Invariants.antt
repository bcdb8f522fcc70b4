use Rattle.std.proofs.Common.{Ok, ◌≤◌, ◌+◌, ◌^◌}
use Rattle.mg_defs.specs.RunBits.{before_first, postings_bits}
use Rattle.mg_runs.specs.Merging.{left_together}
use Rattle.mg_runs.specs.Reading.{ForLeftRunAt, GroupPutting, GroupShaped}
use Rattle.mg_runs.specs.Steps.{GroupWrite}
use Rattle.mg_runs.proofs.join.put_postings.Given as goal

abbrev pub invariant-loop-posting : goal.invariant-loop-posting
invariant-loop-posting g l = record {
  shape : GroupShaped l.group;
  place : l.w.place ≤ 2 ^ 61 + 256;
  step : GroupWrite {T = Unit {0}} l.initial.group l.group l.initial.w l.w (Ok tt) (g.S.Store.files l.initial.store) (g.S.Store.files l.store)
      (g.S.Store.reads l.initial.store) (g.S.Store.reads l.store) (g.S.Store.faults l.initial.store) (g.S.Store.faults l.store);
  told : ForLeftRunAt l.initial.group (g.S.Store.files l.initial.store) l.initial.w.place
      (λ bytes left. GroupPutting l.group bytes (g.S.Store.files l.initial.store) (g.S.Store.files l.store) l.initial.w l.w l.last (postings_bits before_first left));
}

abbrev pub decreases-loop-posting : goal.decreases-loop-posting
decreases-loop-posting g l = left_together l.group.cursors.items
