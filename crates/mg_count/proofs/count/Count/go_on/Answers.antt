use Rattle.std.proofs.Common.{sym, subst}
use Rattle.mg_count.specs.Counting.{FirstPass, HasCounted}
use Rattle.mg_count.proofs.count.Count.go_on.Goals as goal

pub returns-clause-given : goal.returns-clause-given
returns-clause-given c = λ fed given.
    let h : HasCounted (record { scanning = c.self.inside.scanner; counting = c.self.inside.counts }) fed = subst (λ (v : FirstPass). HasCounted v fed) (sym c.self.view_is) given in
    record { met = h.met; scanned = c.go_on.ensures.met fed h.met h.scanned; counted = h.counted }
