use Rattle.mg_reply.proofs.PendingLaws.{puts_passed, puts_refused}
use Rattle.mg_reply.proofs.text.put_row.Goals as goal

pub returns-in-Ok : goal.returns-in-Ok
returns-in-Ok g c = puts_passed c.new-pending.ensures c.in-Ok.ensures c.flush.ensures.put

pub returns-in-Err : goal.returns-in-Err
returns-in-Err g c = puts_refused c.new-pending.ensures c.in-Err.ensures
