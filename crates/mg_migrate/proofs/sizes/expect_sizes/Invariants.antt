use Rattle.std.proofs.Common.{◌≡◌, ◌≤◌, ◌<◌, ℕ, IsSome}
use Rattle.mg_dev.specs.Files.{SameReads}
use Rattle.mg_layout.specs.HeadAnswers.{fields_of}
use Rattle.mg_migrate.proofs.PartLaws.{HasSize, size_at}
use Rattle.mg_migrate.proofs.sizes.expect_sizes.Given as goal

abbrev pub invariant-loop-part : goal.invariant-loop-part
invariant-loop-part g l = record {
  files : g.S.Store.files l.store ≡ g.S.Store.files l.fn.store;
  reads : SameReads (g.S.Store.reads l.fn.store) (g.S.Store.reads l.store);
  later : g.S.Store.faults l.fn.store ≤ g.S.Store.faults l.store;
  sized : IsSome (g.S.Store.files l.fn.store) → (k : ℕ) → k < l.part-index → HasSize (g.S.Store.files l.fn.store) l.base (size_at (fields_of l.head) k);
}
