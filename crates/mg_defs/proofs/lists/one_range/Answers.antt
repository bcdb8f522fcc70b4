use Rattle.mg_defs.proofs.ListLaws as laws
use Rattle.mg_defs.proofs.lists.one_range.Goals as goal

pub returns-clause-some : goal.returns-clause-some
returns-clause-some c = laws.some_range

pub returns-clause-only : goal.returns-clause-only
returns-clause-only c = laws.one_range
