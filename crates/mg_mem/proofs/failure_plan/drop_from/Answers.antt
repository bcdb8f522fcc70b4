use Rattle.std.proofs.Common.{rules, nat_lt}
use Rattle.std.proofs.lemmas.Fn.{filter_same}
use Rattle.mg_mem.proofs.failure_plan.drop_from.Goals as goal

pub returns : goal.returns
returns c = filter_same _ (λ p. nat_lt p.call c.args.call) _ (λ p b g told. search rules) _ _ c.retain.ensures.filtered
