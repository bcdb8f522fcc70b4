use Rattle.std.proofs.Common.{◌≡◌, ◌≤◌, ◌-◌, IsSome, length, take}
use Rattle.mg_dev.specs.Files.{bytes_at}
use Rattle.mg_dev.specs.Names.{full_name}
use Rattle.mg_migrate.specs.Copying.{ChangedAlone}
use Rattle.mg_migrate.proofs.copying.copy_part.Given as goal

abbrev pub invariant-loop-at : goal.invariant-loop-at
invariant-loop-at g l = record {
  alone : ChangedAlone (full_name l.fn.bases.new.now l.fn.part) (g.S.Store.files l.fn.store) (g.S.Store.files l.store);
  copied : IsSome (g.S.Store.files l.fn.store) → bytes_at (g.S.Store.files l.store) (full_name l.fn.bases.new.now l.fn.part) ≡ take l.at (bytes_at (g.S.Store.files l.fn.store) (full_name l.fn.bases.name.now l.fn.part));
  size : IsSome (g.S.Store.files l.fn.store) → length (bytes_at (g.S.Store.files l.fn.store) (full_name l.fn.bases.name.now l.fn.part)) ≡ l.size;
  within : l.at ≤ l.size;
  later : g.S.Store.faults l.fn.store ≤ g.S.Store.faults l.store;
}

abbrev pub decreases-loop-at : goal.decreases-loop-at
decreases-loop-at g l = l.size - l.at
