use Rattle.std.proofs.Common.{arith}
use Rattle.mg_query.specs.QueryOf.{query_of}
use Rattle.mg_bool.proofs.LeadLaws.{lead_leads, none_leads}
use Rattle.mg_bool.proofs.lead.lead_place.Goals as goal

pub returns-in-Some-clause-leads : goal.returns-in-Some-clause-leads
returns-in-Some-clause-leads c = λ collection a. lead_leads collection (query_of c.args.query.now) _ _ a
    (rw c.in-Some.is at c.lead_from.ensures.lead collection) (rw c.in-Some.is at c.lead_from.ensures.place)

pub returns-in-None-clause-leads : goal.returns-in-None-clause-leads
returns-in-None-clause-leads c = λ collection a. none_leads collection (query_of c.args.query.now) _ a (rw c.in-None.is at c.lead_from.ensures.lead collection)

pub returns-in-Some-clause-needs : goal.returns-in-Some-clause-needs
returns-in-Some-clause-needs c = (rw c.in-Some.is at c.lead_from.ensures.needs) (omega (arith, c.requires))
