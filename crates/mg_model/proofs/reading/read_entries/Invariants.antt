use Rattle.std.proofs.Common.{◌-◌}
use Rattle.mg_model.proofs.Walking.{ReadSoFar}
use Rattle.mg_model.proofs.reading.read_entries.Given as goal

abbrev pub invariant-entries : goal.invariant-entries
invariant-entries g l =
    ReadSoFar (g.W.EntryWalk.walking l.fn.walk) (g.W.EntryWalk.walking l.walk) l.read (g.S.Store.files l.fn.store) (g.S.Store.files l.store)
    (g.S.Store.reads l.fn.store) (g.S.Store.reads l.store) (g.S.Store.faults l.fn.store) (g.S.Store.faults l.store)

abbrev pub decreases-entries : goal.decreases-entries
decreases-entries g l = (g.W.EntryWalk.walking l.walk).count - (g.W.EntryWalk.walking l.walk).done
