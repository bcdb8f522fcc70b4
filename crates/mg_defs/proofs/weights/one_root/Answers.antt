use Rattle.mg_defs.proofs.FixedLaws as laws
use Rattle.mg_defs.proofs.weights.one_root.Goals as goal

pub returns-clause-is : goal.returns-clause-is
returns-clause-is c = laws.isqrt_root

pub returns-clause-only : goal.returns-clause-only
returns-clause-only c = laws.one_root
