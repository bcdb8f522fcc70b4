use Rattle.std.proofs.Common.{◌≤◌, ◌-◌, ℕ, List}
use Rattle.mg_dev.specs.Moments.{Between}
use Rattle.mg_check_index.specs.Listing.{CanCompareIn, ComparedIn}
use Rattle.mg_check.specs.IndexedText.{IsIndexOf}
use Rattle.mg_check_text.specs.Reads.{HasReadText}
use Rattle.mg_check.proofs.index.check_ranges.Given as goal

abbrev pub invariant-loop-first : goal.invariant-loop-first
invariant-loop-first g l = record {
  within : l.first ≤ l.terms;
  text : Between g.S.Store.files g.S.Store.reads g.S.Store.faults l.initial.store l.store (HasReadText l.initial.reader l.reader);
  can : CanCompareIn (g.S.Store.files l.initial.store) l.of l.first l.compared;
  agree : (collection : List ℕ) →
      IsIndexOf l.initial.reader (g.S.Store.files l.initial.store) l.of.table.now.terms l.of.docs.now l.of.occurrences collection →
      ComparedIn (g.S.Store.files l.initial.store) l.of collection 0 l.initial.compared →
      ComparedIn (g.S.Store.files l.initial.store) l.of collection l.first l.compared;
}

abbrev pub decreases-loop-first : goal.decreases-loop-first
decreases-loop-first g l = l.terms - l.first
