use Rattle.std.proofs.Common.{arith}
use Rattle.mg_session.proofs.CallLaws.{put_done, put_refused}
use Rattle.mg_session.proofs.ShowLaws.{flush_cut}
use Rattle.mg_session.proofs.TotalLaws.{put_all}
use Rattle.mg_session.proofs.total.put_total.Goals as goal

pub returns-in-Err-clause-alone : goal.returns-in-Err-clause-alone
returns-in-Err-clause-alone g c = put_refused c.in-Err.refusal c.from.ensures c.in-Err.ensures.cause c.in-Err.ensures.lack (omega arith) (omega arith)

pub returns-in-Ok-flush-clause-content : goal.returns-in-Ok-flush-clause-content
returns-in-Ok-flush-clause-content g c = put_all _ _ _ _ _ _ c.in-Ok.ensures.content c.in-Ok-flush.ensures.put.content

pub returns-in-Ok-flush-clause-alone : goal.returns-in-Ok-flush-clause-alone
returns-in-Ok-flush-clause-alone g c =
    let h = c.in-Ok.ensures in
    let f = c.in-Ok-flush.ensures.put in
    put_done (omega (arith, h.cause.later, f.cause.later)) (omega (arith, h.lack.later, f.lack.later))

pub returns-in-Err-flush-clause-content : goal.returns-in-Err-flush-clause-content
returns-in-Err-flush-clause-content g c = flush_cut _ _ _ _ _ _ c.in-Ok.ensures.content c.in-Err-flush.ensures.put.content

pub returns-in-Err-flush-clause-alone : goal.returns-in-Err-flush-clause-alone
returns-in-Err-flush-clause-alone g c =
    let h = c.in-Ok.ensures in
    let e = c.in-Err-flush.ensures.put in
    put_refused c.in-Err-flush.refusal c.from-in-Err-flush.ensures e.cause e.lack h.cause.later h.lack.later
