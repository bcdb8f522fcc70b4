use Rattle.std.proofs.Common.{Ok}
use Rattle.mg_index.specs.ListEnds.{TermsStep}
use Rattle.mg_index.proofs.lists.write_terms.Given as goal

abbrev pub invariant-loop-number : goal.invariant-loop-number
invariant-loop-number g l = record {
  step : TermsStep 0 l.number l.terms l.initial.merge l.merge l.initial.writer l.writer l.initial.sums l.sums (Ok tt)
      (g.S.Store.files l.initial.store) (g.S.Store.files l.store) (g.S.Store.reads l.initial.store) (g.S.Store.reads l.store)
      (g.S.Store.faults l.initial.store) (g.S.Store.faults l.store);
}
