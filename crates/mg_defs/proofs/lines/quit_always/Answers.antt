use Rattle.mg_defs.proofs.LimitLaws.{ends_always}
use Rattle.mg_defs.proofs.lines.quit_always.Goals as goal

pub returns : goal.returns
returns c = ends_always
