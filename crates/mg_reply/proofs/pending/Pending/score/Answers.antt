use Rattle.std.specs.Prelude.{decimal}
use Rattle.mg_reply.proofs.PendingLaws.{passes_both, passes_part}
use Rattle.mg_reply.proofs.pending.Pending.score.Goals as goal

pub returns-in-Ok : goal.returns-in-Ok
returns-in-Ok g c = passes_both c.in-Ok.ensures c.number.ensures

pub returns-in-Err : goal.returns-in-Err
returns-in-Err g c = passes_part (decimal c.args.score) c.in-Err.ensures
