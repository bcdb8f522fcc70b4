use Rattle.mg_defs.proofs.FixedLaws as laws
use Rattle.mg_defs.proofs.weights.logarithm_rises.Goals as goal

pub returns-clause-rises : goal.returns-clause-rises
returns-clause-rises c = laws.lg_rises

pub returns-clause-doubles : goal.returns-clause-doubles
returns-clause-doubles c = laws.lg_doubles
