use Rattle.std.proofs.Common.{length}
use Rattle.mg_query.proofs.query.Query.+joined.Given as goal

abbrev pub decreases-joined : goal.decreases-joined
decreases-joined l = length l.rest.now
