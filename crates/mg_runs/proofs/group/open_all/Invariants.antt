use Rattle.std.proofs.Common.{◌≡◌, ◌≤◌, ◌*◌, ◌^◌, List, IsSome, length}
use Rattle.std.specs.List.{All}
use Rattle.mg_dev.specs.Files.{bytes_at}
use Rattle.mg_dev.specs.Names.{full_name}
use Rattle.mg_bits.specs.Pages.{Looked}
use Rattle.mg_defs.specs.declared.TermPosting.{TermPosting}
use Rattle.mg_runs.specs.Pooled.{SamePool}
use Rattle.mg_runs.specs.Cursors.{HasPosting}
use Rattle.mg_runs.specs.declared.cursor.Cursor.{Cursor}
use Rattle.mg_runs.specs.Merging.{AreOpen, AreRunsAt, left_together}
use Rattle.mg_runs.proofs.group.open_all.Given as goal

abbrev pub invariant-loop-k : goal.invariant-loop-k
invariant-loop-k g l = record {
  made : length l.cursors.items ≡ l.k;
  slots : length l.pool.slots ≡ length l.places;
  told : IsSome (g.S.Store.files l.initial.store) → (runs : List (List TermPosting)) →
      AreRunsAt (bytes_at (g.S.Store.files l.initial.store) (full_name l.file.base.now l.file.part)) l.places runs →
      AreOpen l.pool.slots l.cursors.items (bytes_at (g.S.Store.files l.initial.store) (full_name l.file.base.now l.file.part)) runs l.k;
  postings : All (λ (c : Cursor). HasPosting c) l.cursors.items;
  total : left_together l.cursors.items ≤ 2 ^ 32 * l.k;
  pool : SamePool l.initial.pool l.pool;
  looked : Looked l.file.part (g.S.Store.files l.initial.store) (g.S.Store.files l.store) (g.S.Store.reads l.initial.store) (g.S.Store.reads l.store)
      (g.S.Store.faults l.initial.store) (g.S.Store.faults l.store);
}
