use Rattle.std.proofs.Common.{sym, subst}
use Rattle.mg_count.specs.Counting.{FirstPass, HasCounted}
use Rattle.mg_count.proofs.count.Count.take.Goals as goal

pub returns-then-goes_on-clause-given : goal.returns-then-goes_on-clause-given
returns-then-goes_on-clause-given c = λ fed given.
    let h : HasCounted (record { scanning = c.self.inside.scanner; counting = c.self.inside.counts }) fed = subst (λ (v : FirstPass). HasCounted v fed) (sym c.self.view_is) given in
    record { met = h.met; scanned = c.goes_on.ensures.met c.if-goes_on.true fed h.met h.scanned; counted = h.counted }
