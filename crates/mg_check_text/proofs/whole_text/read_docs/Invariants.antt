use Rattle.std.proofs.Common.{◌≡◌}
use Rattle.mg_layout.specs.Stands.{parts_at}
use Rattle.mg_dev.specs.Moments.{Between}
use Rattle.mg_check_text.specs.Checking.{FoundDocs, IsInRange}
use Rattle.std.specs.Option.{IsSome}
use Rattle.mg_check_text.specs.Reads.{HasReadText, KeepsPages}
use Rattle.mg_check_text.proofs.whole_text.read_docs.Given as goal

abbrev pub invariant-loop-number : goal.invariant-loop-number
invariant-loop-number g l = record {
  text : Between g.S.Store.files g.S.Store.reads g.S.Store.faults l.initial.store l.store (HasReadText l.initial.reader l.reader);
  pages : KeepsPages l.set.base.now (g.S.Store.files l.store) l.held.text l.held.places;
  range : IsInRange l.initial.reader.code l.set.head.now l.progress;
  count : l.progress.documents ≡ l._number;
  found : IsSome (g.S.Store.files l.initial.store) → FoundDocs (parts_at (g.S.Store.files l.initial.store) l.set.base.now) l.set.head.now.version l.initial.reader.code l.progress;
}
