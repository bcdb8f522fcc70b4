use Rattle.std.proofs.Common.{◌-◌}
use Rattle.mg_rank.proofs.ListWalk.{Keeps}
use Rattle.mg_rank.proofs.list.add_postings.Given as goal

abbrev pub invariant-loop-last : goal.invariant-loop-last
invariant-loop-last g l =
    Keeps l.fn.cursor l.weight l.last l.fn.sums l.sums l.cursor (g.S.Store.files l.fn.store) (g.S.Store.files l.store) (g.S.Store.reads l.fn.store) (g.S.Store.reads l.store)
    (g.S.Store.faults l.fn.store) (g.S.Store.faults l.store)

abbrev pub decreases-loop-last : goal.decreases-loop-last
decreases-loop-last g l = l.fn.cursor.all - l.last
