use Rattle.std.proofs.Common.{arith}
use Rattle.mg_session.proofs.CallLaws.{output_lacked, put_done, put_refused}
use Rattle.mg_session.proofs.ReplyLaws.{put_sound}
use Rattle.mg_session.proofs.WildReplyLaws.{line_bad, line_unread}
use Rattle.mg_session.proofs.wild_searcher.refuse_pattern.Goals as goal

pub returns-in-Ok-clause-replied : goal.returns-in-Ok-clause-replied
returns-in-Ok-clause-replied g c = λ line said collection.
    line_bad collection line c.in-Bad.at _ _ _ (rw c.in-Bad.is at said) c.in-Ok.ensures.content tt

pub returns-in-Err-clause-replied : goal.returns-in-Err-clause-replied
returns-in-Err-clause-replied g c = λ line said collection.
    line_bad collection line c.in-Bad.at _ _ _ (rw c.in-Bad.is at said) c.in-Err.ensures.content (put_sound c.in-Err.refusal _ c.from.ensures)

pub returns-in-Memory-clause-replied : goal.returns-in-Memory-clause-replied
returns-in-Memory-clause-replied g c = λ line said collection. line_unread collection line _ _ tt

pub returns-in-Ok-clause-alone : goal.returns-in-Ok-clause-alone
returns-in-Ok-clause-alone g c = put_done c.in-Ok.ensures.cause.later c.in-Ok.ensures.lack.later

pub returns-in-Err-clause-alone : goal.returns-in-Err-clause-alone
returns-in-Err-clause-alone g c = put_refused c.in-Err.refusal c.from.ensures c.in-Err.ensures.cause c.in-Err.ensures.lack (omega arith) (omega arith)

pub returns-in-Memory-clause-alone : goal.returns-in-Memory-clause-alone
returns-in-Memory-clause-alone g c = output_lacked
