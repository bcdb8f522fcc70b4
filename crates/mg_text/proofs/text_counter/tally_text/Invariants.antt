use Rattle.mg_text.proofs.TextCounts.{TalliesFirst}
use Rattle.mg_text.proofs.text_counter.tally_text.Given as goal

abbrev pub invariant-loop-index : goal.invariant-loop-index
invariant-loop-index g l = TalliesFirst l.index l.fn.reader l.reader l.fn.tally l.tally l.fn.counts l.counts
    (g.S.Store.files l.fn.store) (g.S.Store.files l.store) (g.S.Store.reads l.fn.store) (g.S.Store.reads l.store) (g.S.Store.faults l.fn.store) (g.S.Store.faults l.store)
