use Rattle.std.specs.Prelude.{◌+◌}
use Rattle.mg_defs.specs.PageBounds.{asked_of}
use Rattle.mg_defs.specs.QueryTerms.{query_terms}
use Rattle.mg_query.specs.QueryOf.{query_of}
use Rattle.mg_bool.proofs.AskLaws.{places_span}
use Rattle.mg_bool.proofs.laws.matches_read_each_page_once.Goals as goal

pub returns : goal.returns
returns c = λ base collection m over.
    places_span base collection (asked_of collection (query_of m.asks)) (query_terms (query_of m.asks)) (m.decided + 1) m.places
    c.each_page_is_read_once.ensures.span over.each
