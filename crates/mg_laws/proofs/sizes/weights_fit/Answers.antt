use Rattle.mg_laws.proofs.SizeLaws as laws
use Rattle.mg_laws.proofs.sizes.weights_fit.Goals as goal

pub returns : goal.returns
returns c = laws.weight_small
