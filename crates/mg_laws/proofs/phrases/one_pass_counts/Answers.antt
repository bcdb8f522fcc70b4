use Rattle.mg_laws.proofs.OnePassLaws as laws
use Rattle.mg_laws.proofs.phrases.one_pass_counts.Goals as goal

pub returns : goal.returns
returns c = laws.one_pass
