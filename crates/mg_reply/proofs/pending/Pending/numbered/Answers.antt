use Rattle.mg_reply.proofs.PendingLaws.{passes_both, passes_part}
use Rattle.std.proofs.Common.{codes, ◌++◌}
use Rattle.std.specs.Prelude.{decimal}
use Rattle.mg_reply.proofs.pending.Pending.numbered.Goals as goal

pub returns-in-Ok : goal.returns-in-Ok
returns-in-Ok g c = rw c.in-Some.is (passes_both c.in-Ok.ensures c.score.ensures)

pub returns-in-Err : goal.returns-in-Err
returns-in-Err g c = rw c.in-Some.is (passes_part (codes " " ++ decimal c.in-Some.score) c.in-Err.ensures)
