use Rattle.std.proofs.Common.{arith, ◌∙◌, ap, length, map, subst, sym}
use Rattle.std.proofs.lemmas.List.Sorted.{length_permutation}
use Rattle.std.specs.List.{AllByRecursion}
use Rattle.mg_defs.specs.Sorted.{sorted_distinct}
use Rattle.mg_model.specs.Blocks.{IsPieceEntry, piece_of}
use Rattle.mg_model.proofs.SortedBlocks.{once-entries, once-pieces, once-sorted, pieces-moved}
use Rattle.mg_model.proofs.block.PieceBlock.sort_distinct.Goals as goal

pub invariant_of-self : goal.invariant_of-self
invariant_of-self c = record {
  few = omega (arith, c.self.invariant.few, c.leave_each_once.ensures.fewer, ap length c.leave_each_once.ensures.entries, length_permutation c.self.inside.entries.items c.sort_entries.new.entries.items c.sort_entries.ensures.permutation);
  entries_are = subst (AllByRecursion (IsPieceEntry (length c.self.inside.long.items))) (sym c.leave_each_once.ensures.entries)
      (once-entries (length c.self.inside.long.items) _ c.self.inside.entries.items c.sort_entries.new.entries.items c.sort_entries.ensures.permutation c.self.invariant.entries_are);
}

pub returns : goal.returns
returns c =
    let long = c.self.inside.long.items in
    let before = c.self.inside.entries.items in
    let sorted = c.sort_entries.new.entries.items in
    ap (map (piece_of long)) (rw (c.deref-2.ensures.value) at c.leave_each_once.ensures.entries) ∙ once-pieces long sorted
    ∙ once-sorted (map (piece_of long) before) (map (piece_of long) sorted) (pieces-moved long before sorted c.sort_entries.ensures.permutation)
    (rw (c.deref.ensures.value) at c.sort_entries.ensures.sorted)
    ∙ ap (λ t. sorted_distinct t) c.self.view_is
