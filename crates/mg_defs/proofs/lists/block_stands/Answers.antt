use Rattle.mg_defs.proofs.ListLaws as laws
use Rattle.mg_defs.proofs.lists.block_stands.Goals as goal

pub returns : goal.returns
returns c = laws.block_stands
