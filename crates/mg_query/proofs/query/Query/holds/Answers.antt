use Rattle.std.proofs.Common.{◌∙◌}
use Rattle.mg_query.specs.QueryOf.{query_of}
use Rattle.mg_query.proofs.HoldLaws.{holds_is}
use Rattle.mg_query.proofs.query.Query.holds.Goals as goal

pub returns-clause-satisfied : goal.returns-clause-satisfied
returns-clause-satisfied c = λ doc there. c.holds_first.ensures.value ∙ holds_is doc (query_of c.args.self.now) c.args.there.now there
