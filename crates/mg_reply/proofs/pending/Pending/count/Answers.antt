use Rattle.std.proofs.Common.{None}
use Rattle.mg_defs.specs.Texts.{count, row}
use Rattle.mg_reply.proofs.PendingLaws.{passes_both, passes_part}
use Rattle.mg_reply.proofs.pending.Pending.count.Goals as goal

pub returns-in-Ok : goal.returns-in-Ok
unfolding count
returns-in-Ok g c = passes_both c.in-Ok.ensures c.row.ensures

pub returns-in-Err : goal.returns-in-Err
unfolding count
returns-in-Err g c = passes_part (row c.args.total None) c.in-Err.ensures
