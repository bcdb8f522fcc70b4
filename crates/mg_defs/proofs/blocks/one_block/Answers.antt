use Rattle.mg_defs.proofs.BlockLaws as laws
use Rattle.mg_defs.proofs.blocks.one_block.Goals as goal

pub returns : goal.returns
returns c = laws.one_block
