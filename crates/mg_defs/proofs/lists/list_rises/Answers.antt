use Rattle.mg_defs.proofs.ListLaws as laws
use Rattle.mg_defs.proofs.lists.list_rises.Goals as goal

pub returns : goal.returns
returns c = laws.list_rises
