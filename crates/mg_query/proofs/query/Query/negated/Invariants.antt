use Rattle.std.proofs.Common.{◌≡◌, ◌-◌}
use Rattle.mg_defs.specs.Read.{negated}
use Rattle.mg_query.specs.QueryOf.{query_of}
use Rattle.mg_query.proofs.query.Query.negated.Given as goal

abbrev pub invariant-loop-sign : goal.invariant-loop-sign
invariant-loop-sign l = negated (l.signs - l._sign) (query_of l.negated) ≡ negated l.signs (query_of l.fn.query)
