use Rattle.std.proofs.Common.{◌+◌, ◌-◌, ◌∙◌, ap}
use Rattle.mg_defs.specs.Sat.{without}
use Rattle.mg_defs.specs.Read.{negated}
use Rattle.mg_query.specs.QueryOf.{query_of}
use Rattle.mg_query.proofs.Steps.{negated-step}
use Rattle.mg_query.proofs.query.Query.negated.Goals as goal

pub loop-sign-preserved : goal.loop-sign-preserved
loop-sign-preserved c =
    ap (λ q. negated (c.args.signs - (c.loop-sign._sign + 1)) (without (query_of q))) c.in_ok-new.ensures.ok
    ∙ (negated-step c.args.signs c.loop-sign._sign (query_of c.loop-sign.negated) c.loop-sign-test.true ∙ c.loop-sign.invariant)
