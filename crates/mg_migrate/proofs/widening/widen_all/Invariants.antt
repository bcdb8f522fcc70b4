use Rattle.std.proofs.Common.{◌≡◌, ◌≤◌, ◌++◌, ℕ, List, IsSome, take}
use Rattle.std.specs.List.{flat_map}
use Rattle.mg_dev.specs.Files.{bytes_at}
use Rattle.mg_bits.specs.Pages.{Fits}
use Rattle.mg_bits.specs.Writer.{put_to}
use Rattle.mg_defs.specs.Numbers.{eight}
use Rattle.mg_migrate.specs.Copying.{AreNarrow, ChangedAlone}
use Rattle.mg_migrate.proofs.widening.widen_all.Given as goal

abbrev pub invariant-loop-index : goal.invariant-loop-index
invariant-loop-index g l = record {
  fits : Fits l.places (g.S.Store.files l.store);
  file : l.places.name ≡ l.fn.places.name;
  name : l.wide.name ≡ l.fn.wide.name;
  alone : ChangedAlone l.fn.wide.name (g.S.Store.files l.fn.store) (g.S.Store.files l.store);
  written : IsSome (g.S.Store.files l.fn.store) → (numbers : List ℕ) → AreNarrow numbers (bytes_at (g.S.Store.files l.fn.store) l.fn.places.name) l.fn.count →
      put_to l.wide (g.S.Store.files l.store) ≡ put_to l.fn.wide (g.S.Store.files l.fn.store) ++ flat_map eight (take l.index numbers);
  later : g.S.Store.faults l.fn.store ≤ g.S.Store.faults l.store;
}
