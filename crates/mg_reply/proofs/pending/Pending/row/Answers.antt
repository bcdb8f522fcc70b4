use Rattle.std.proofs.Common.{codes}
use Rattle.mg_defs.specs.Texts.{row}
use Rattle.mg_reply.proofs.PendingLaws.{passes_both, passes_part}
use Rattle.mg_reply.proofs.pending.Pending.row.Goals as goal

pub returns-in-Ok : goal.returns-in-Ok
unfolding row
returns-in-Ok g c = passes_both c.in-Ok.ensures c.put.ensures

pub returns-in-Err : goal.returns-in-Err
unfolding row
returns-in-Err g c = passes_part (codes "\n") c.in-Err.ensures
