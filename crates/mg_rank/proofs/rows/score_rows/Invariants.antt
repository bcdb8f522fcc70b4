use Rattle.std.specs.BinaryHeap.{heap_items}
use Rattle.mg_rank.proofs.RowWalk.{Under}
use Rattle.mg_rank.proofs.rows.score_rows.Given as goal

abbrev pub invariant-loop-place : goal.invariant-loop-place
invariant-loop-place g l =
    Under l.fn.weights.name l.sums l.all l.most l.place l.weights (heap_items l.best) (g.S.Store.files l.fn.store) (g.S.Store.files l.store) (g.S.Store.reads l.fn.store) (g.S.Store.reads l.store)
    (g.S.Store.faults l.fn.store) (g.S.Store.faults l.store)
