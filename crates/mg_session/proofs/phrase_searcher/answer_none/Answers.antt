use Rattle.std.proofs.Common.{arith}
use Rattle.mg_session.proofs.CallLaws.{put_done, put_refused}
use Rattle.mg_session.proofs.phrase_searcher.answer_none.Goals as goal

pub returns-in-Ok-clause-alone : goal.returns-in-Ok-clause-alone
returns-in-Ok-clause-alone g c = put_done c.in-Ok.ensures.cause.later c.in-Ok.ensures.lack.later

pub returns-in-Err-clause-alone : goal.returns-in-Err-clause-alone
returns-in-Err-clause-alone g c = put_refused c.in-Err.refusal c.from.ensures c.in-Err.ensures.cause c.in-Err.ensures.lack (omega arith) (omega arith)
