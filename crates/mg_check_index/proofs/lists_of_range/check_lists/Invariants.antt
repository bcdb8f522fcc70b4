use Rattle.std.proofs.Common.{◌≤◌, ◌+◌, ◌-◌, ℕ, List, IsSome, length}
use Rattle.mg_dev.specs.Moments.{Between}
use Rattle.mg_check_parts.specs.Looks.{HasLooked}
use Rattle.mg_check_index.specs.Listing.{CanCompareIn, ComparedIn, IsRangeOf}
use Rattle.mg_check_index.proofs.lists_of_range.check_lists.Given as goal

abbrev pub invariant-loop-first : goal.invariant-loop-first
invariant-loop-first g l = record {
  within : l.first ≤ length l.lists.next;
  can : CanCompareIn (g.S.Store.files l.initial.store) l.of (l.lists.first + l.first) l.compared;
  agree : (collection : List ℕ) → IsSome (g.S.Store.files l.initial.store) → IsRangeOf l.lists l.of.table.now.terms l.of.documents collection →
      ComparedIn (g.S.Store.files l.initial.store) l.of collection l.lists.first l.initial.compared →
      ComparedIn (g.S.Store.files l.initial.store) l.of collection (l.lists.first + l.first) l.compared;
  looks : Between g.S.Store.files g.S.Store.reads g.S.Store.faults l.initial.store l.store HasLooked;
}

abbrev pub decreases-loop-first : goal.decreases-loop-first
decreases-loop-first g l = length l.lists.next - l.first
