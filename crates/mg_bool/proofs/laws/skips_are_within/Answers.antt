use Rattle.mg_bool.proofs.BoundLaws.{skips_told}
use Rattle.mg_bool.proofs.CallLaws as laws
use Rattle.mg_bool.proofs.laws.skips_are_within.Goals as goal

pub returns-clause-sum : goal.returns-clause-sum
returns-clause-sum c = laws.skips_sum

pub returns-clause-terms : goal.returns-clause-terms
returns-clause-terms c = λ base collection m now. skips_told base collection m now
