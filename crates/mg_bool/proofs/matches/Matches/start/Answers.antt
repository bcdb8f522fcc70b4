use Rattle.std.proofs.Common.{arith, ◌+◌, ◌∙◌}
use Rattle.mg_query.specs.QueryOf.{query_of}
use Rattle.mg_defs.specs.QueryTerms.{query_terms}
use Rattle.mg_defs.specs.PageBounds.{asked_of}
use Rattle.mg_bool.proofs.matches.Matches.start.Goals as goal

pub returns-clause-over : goal.returns-clause-over
returns-clause-over g c = λ collection a all_is. record {
  each = c.in_ok-places.ensures.over collection (asked_of collection (query_of c.args.query.now)) (query_terms (query_of c.args.query.now)) (0 + 1) a all_is;
  leads = c.lead_place-lead.ensures.leads collection a;
  all_is = all_is;
  within = omega arith;
}

pub returns-clause-fits : goal.returns-clause-fits
returns-clause-fits g c = λ files. record { on = c.in_ok-places.ensures.on; fits = c.in_ok-places.ensures.fits files }

pub returns-clause-stands : goal.returns-clause-stands
returns-clause-stands g c = λ files. record { size = c.in_ok-places.ensures.size ∙ c.requires.size; each = c.in_ok-places.ensures.stands files (0 + 1) }
