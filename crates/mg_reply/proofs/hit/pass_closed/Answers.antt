use Rattle.mg_defs.specs.Texts.{close}
use Rattle.mg_reply.proofs.PendingLaws.{passes_both, passes_part}
use Rattle.mg_reply.proofs.hit.pass_closed.Goals as goal

pub returns-in-Ok : goal.returns-in-Ok
returns-in-Ok g c = passes_both c.in-Ok.ensures c.close.ensures

pub returns-in-Err : goal.returns-in-Err
returns-in-Err g c = passes_part close c.in-Err.ensures
