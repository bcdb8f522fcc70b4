use Rattle.std.proofs.Common.{Ok, ◌≡◌, ◌≤◌, ◌-◌, ◌*◌, [], length, min, max}
use Rattle.mg_runs.specs.Joins.{IsJoining}
use Rattle.mg_runs.specs.Reading.{ForStored}
use Rattle.mg_runs.specs.Rounds.{AreCounted}
use Rattle.mg_runs.specs.Steps.{RunStep}
use Rattle.mg_runs.proofs.round.join_groups.Given as goal

abbrev pub invariant-loop-at : goal.invariant-loop-at
invariant-loop-at g l = record {
  within : l.at ≤ length l.places;
  entries : l.made.pool.entries ≡ [];
  limit : l.made.pool.limit ≡ l.initial.made.pool.limit;
  count : AreCounted l.width (length l.places) l.at (length l.made.places.items);
  peak : l.made.pool.peak ≡ max l.initial.made.pool.peak (64 * min l.at l.width);
  step : RunStep {T = Unit {0}} l.file.part l.initial.w l.w (Ok tt) (g.S.Store.files l.initial.store) (g.S.Store.files l.store)
      (g.S.Store.reads l.initial.store) (g.S.Store.reads l.store) (g.S.Store.faults l.initial.store) (g.S.Store.faults l.store);
  told : ForStored l.file (g.S.Store.files l.initial.store) l.places
      (λ runs. IsJoining l.width runs l.at l.made.places.items (g.S.Store.files l.initial.store) (g.S.Store.files l.store) l.initial.w l.w);
}

abbrev pub decreases-loop-at : goal.decreases-loop-at
decreases-loop-at g l = length l.places - l.at
