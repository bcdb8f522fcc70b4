use Rattle.std.proofs.Common.{◌-◌}
use Rattle.mg_query.specs.QueryOf.{query_of}
use Rattle.mg_bool.specs.Walked.{spot}
use Rattle.mg_bool.proofs.WalkLaws.{Under}
use Rattle.mg_bool.proofs.any.next_of_any.Given as goal

abbrev pub invariant-loop-walk : goal.invariant-loop-walk
invariant-loop-walk g l = Under (query_of l.asks.query.now) l.asks.lead l.asks.all (spot l.fn.walk) (spot l.walk) (g.S.Store.files l.fn.store)
    (g.S.Store.files l.store) (g.S.Store.reads l.fn.store) (g.S.Store.reads l.store) (g.S.Store.faults l.fn.store) (g.S.Store.faults l.store)

abbrev pub decreases-loop-walk : goal.decreases-loop-walk
decreases-loop-walk g l = l.all - l.walk.decided
