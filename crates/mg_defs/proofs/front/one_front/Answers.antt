use Rattle.mg_defs.proofs.front.one_front.Goals as goal
use Rattle.mg_defs.proofs.FrontParts.{one_front}

pub returns : goal.returns
returns c = one_front
