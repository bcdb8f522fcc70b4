use Rattle.mg_defs.proofs.WeightLaws as laws
use Rattle.mg_defs.proofs.weights.weight_is_root.Goals as goal

pub returns : goal.returns
returns c = laws.weight_root
