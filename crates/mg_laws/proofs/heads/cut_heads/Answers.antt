use Rattle.mg_laws.proofs.CutHeads as laws
use Rattle.mg_laws.proofs.heads.cut_heads.Goals as goal

pub returns-clause-front : goal.returns-clause-front
returns-clause-front c = laws.cut_heads

pub returns-clause-empty : goal.returns-clause-empty
returns-clause-empty c = laws.none_is_empty
