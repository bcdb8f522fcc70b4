use Rattle.mg_query.specs.QueryOf.{query_of}
use Rattle.mg_bool.proofs.LeadLaws.{lead_whole, needs_whole}
use Rattle.mg_bool.proofs.lead.+lead_from.Goals as goal

pub returns-in-And-clause-lead : goal.returns-in-And-clause-lead
returns-in-And-clause-lead t c = λ collection told.
    rw (c.in-And.is, c.fewer.ensures) (
    let h = rw c.in-And.is at told in
    lead_whole collection (query_of c.in-And.left.value) (query_of c.in-And.right.value) c.args.infos.now c.lead_from-first.result.1.now c.lead_from-first.result.0 c.lead_from-second.result.0 h
    (rw c.deref.ensures at c.lead_from-first.ensures.rest)
    (rw c.deref.ensures at c.lead_from-first.ensures.lead collection)
    (rw c.deref.ensures at c.lead_from-first.ensures.place)
    (rw c.deref-in-And.ensures at c.lead_from-second.ensures.lead collection)
    (rw c.deref-in-And.ensures at c.lead_from-second.ensures.place))

pub returns-in-And-clause-needs : goal.returns-in-And-clause-needs
returns-in-And-clause-needs t c = λ fits.
    rw (c.in-And.is, c.fewer.ensures) (
    let h = rw c.in-And.is at fits in
    needs_whole (query_of c.in-And.left.value) (query_of c.in-And.right.value) c.args.infos.now c.lead_from-first.result.1.now c.lead_from-first.result.0 c.lead_from-second.result.0 h
    (rw c.deref.ensures at c.lead_from-first.ensures.rest)
    (rw c.deref-in-And.ensures at c.lead_from-second.ensures.place)
    (rw c.deref.ensures at c.lead_from-first.ensures.needs)
    (rw c.deref-in-And.ensures at c.lead_from-second.ensures.needs))
