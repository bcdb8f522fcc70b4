use Rattle.std.proofs.Common.{arith}
use Rattle.mg_fixed.proofs.Steps.{weight_low}
use Rattle.mg_fixed.proofs.weights.term_weight.Goals as goal

pub overflow_sub-result : goal.overflow_sub-result
overflow_sub-result c = omega (arith, weight_low c.from-docs.result c.from-all.result (omega arith) (omega arith) (omega arith), c.lg.ensures.is)

pub returns-clause-low : goal.returns-clause-low
returns-clause-low c = omega (arith, weight_low c.from-docs.result c.from-all.result (omega arith) (omega arith) (omega arith), c.lg.ensures.is)
