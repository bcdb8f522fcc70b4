use Rattle.mg_defs.proofs.heads.one_head.Goals as goal
use Rattle.mg_defs.proofs.HeadLaws.{one_head}

pub returns : goal.returns
returns c = one_head
