use Rattle.std.proofs.Common.{sym, subst}
use Rattle.mg_count.specs.Counting.{FirstPass, IsCountOf}
use Rattle.mg_count.proofs.count.Count.end.Goals as goal

pub returns-in-Ok-clause-counted : goal.returns-in-Ok-clause-counted
returns-in-Ok-clause-counted c fed given few =
    subst (λ (v : FirstPass). IsCountOf v.counting c.in-Ok.open_end fed) (sym c.given.view_is) (c.in-Ok.ensures.counted fed given few)
