use Rattle.std.proofs.Common.{inr, arith}
use Rattle.std.proofs.lemmas.Bool.{OnTrue_from}
use Rattle.std.proofs.lemmas.Bool.Decides.{nat_tests}
use Rattle.mg_canon.proofs.canon.needs_bit.Goals as goal

pub returns-clause-more : goal.returns-clause-more
returns-clause-more c = OnTrue_from _ _ (λ e. inr (grind (arith, nat_tests, e)))
