use Rattle.std.proofs.Common.{◌≡◌, ◌≤◌, ◌<◌, ◌-◌, ℕ, IsSome}
use Rattle.mg_dev.specs.Files.{file_at}
use Rattle.mg_dev.specs.Names.{full_name}
use Rattle.mg_dev.specs.declared.part.Part.{Part}
use Rattle.mg_make.specs.Putting.{OthersSame}
use Rattle.mg_migrate.specs.Migrating.{IsCopied, IsMadeAnew, copied_part}
use Rattle.mg_migrate.proofs.migrating.copy_parts.Given as goal

abbrev pub invariant-loop-index : goal.invariant-loop-index
invariant-loop-index g l = record {
  copied : IsSome (g.S.Store.files l.fn.store) → (k : ℕ) → k < l.index → IsCopied l.fn.bases.name.now l.fn.bases.new.now (g.S.Store.files l.fn.store) (g.S.Store.files l.store) (copied_part k);
  others : OthersSame l.fn.bases.new.now (g.S.Store.files l.fn.store) (g.S.Store.files l.store);
  kept : (p : Part) → IsMadeAnew p → file_at (g.S.Store.files l.store) (full_name l.fn.bases.new.now p) ≡ file_at (g.S.Store.files l.fn.store) (full_name l.fn.bases.new.now p);
  later : g.S.Store.faults l.fn.store ≤ g.S.Store.faults l.store;
}

abbrev pub decreases-loop-index : goal.decreases-loop-index
decreases-loop-index g l = 9 - l.index
