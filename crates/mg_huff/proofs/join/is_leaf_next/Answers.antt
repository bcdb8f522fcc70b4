use Rattle.std.proofs.Common.{arith}
use Rattle.std.proofs.lemmas.Bool.{OnTrue_from, OnFalse_from}
use Rattle.std.proofs.lemmas.Bool.Decides.{nat_tests}
use Rattle.mg_huff.proofs.Order.{above_rest}
use Rattle.mg_huff.proofs.join.is_leaf_next.Goals as goal

pub returns-clause-leaf_least : goal.returns-clause-leaf_least
returns-clause-leaf_least c = OnTrue_from _ _ (λ e. above_rest _ _ _ c.if-front-inner.false c.requires.inner_rise (grind (arith, nat_tests, e)))

pub returns-clause-inner_least : goal.returns-clause-inner_least
returns-clause-inner_least c = OnFalse_from _ _ (λ e. above_rest _ _ _ c.if-front-leaves.false c.requires.leaves_rise (grind (arith, nat_tests, e)))
