use Rattle.mg_defs.specs.Texts.{header, row}
use Rattle.mg_reply.proofs.PendingLaws.{passes_both, passes_part}
use Rattle.mg_reply.proofs.pending.Pending.header.Goals as goal

pub returns-in-Ok : goal.returns-in-Ok
unfolding header
returns-in-Ok g c = passes_both c.in-Ok.ensures c.row.ensures

pub returns-in-Err : goal.returns-in-Err
unfolding header
returns-in-Err g c = passes_part (row c.args.number c.args.score) c.in-Err.ensures
