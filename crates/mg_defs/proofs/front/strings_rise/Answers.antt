use Rattle.std.proofs.Common.{[]}
use Rattle.mg_defs.proofs.front.strings_rise.Goals as goal
use Rattle.mg_defs.proofs.FrontOrder.{rising}

pub returns : goal.returns
returns c = λ width es. rising width 0 [] es
