use Rattle.std.proofs.Common.{arith, Ok, Err}
use Rattle.mg_dev.specs.declared.show_err.ShowErr.{ShowErr}
use Rattle.mg_defs.specs.WildSession.{numbers_text}
use Rattle.mg_session.specs.DocumentSets.{marked_to}
use Rattle.mg_session.specs.WildMarks.{rows_at}
use Rattle.mg_session.proofs.CallLaws.{put_done, put_refused}
use Rattle.mg_session.proofs.WildTextLaws.{all_put, numbers_refused, terms_refused}
use Rattle.mg_session.proofs.wild_answer.show_matching.Goals as goal

pub returns-in-Err-clause-content : goal.returns-in-Err-clause-content
returns-in-Err-clause-content g c = λ collection terms infos.
    terms_refused (rows_at c.args.numbers.now collection) (numbers_text (marked_to c.args.marked.now c.args.marked.now.all)) c.new-pending.ensures
    (c.in-Err.ensures.content collection terms infos)

pub returns-in-Err-pass_marked-clause-content : goal.returns-in-Err-pass_marked-clause-content
returns-in-Err-pass_marked-clause-content g c = λ collection terms infos.
    numbers_refused (numbers_text (marked_to c.args.marked.now c.args.marked.now.all)) c.new-pending.ensures
    (c.in-Ok.ensures.content collection terms infos) c.in-Err-pass_marked.ensures.content

pub returns-in-Ok-flush-clause-content : goal.returns-in-Ok-flush-clause-content
returns-in-Ok-flush-clause-content g c = λ collection terms infos.
    all_put {T = Unit {0}} {E = ShowErr} (g.O.Sink.written c.flush.new.out) (Ok tt) c.new-pending.ensures
    (c.in-Ok.ensures.content collection terms infos) c.in-Ok-pass_marked.ensures.content c.in-Ok-flush.ensures.put.content

pub returns-in-Err-flush-clause-content : goal.returns-in-Err-flush-clause-content
returns-in-Err-flush-clause-content g c = λ collection terms infos.
    all_put {T = Unit {0}} (g.O.Sink.written c.flush.new.out) (Err c.in-Err-flush.refusal) c.new-pending.ensures
    (c.in-Ok.ensures.content collection terms infos) c.in-Ok-pass_marked.ensures.content c.in-Err-flush.ensures.put.content

-- ---- the output alone

pub returns-in-Err-clause-alone : goal.returns-in-Err-clause-alone
returns-in-Err-clause-alone g c = put_refused c.in-Err.refusal c.from.ensures c.in-Err.ensures.stepped.cause c.in-Err.ensures.stepped.lack (omega arith) (omega arith)

pub returns-in-Err-pass_marked-clause-alone : goal.returns-in-Err-pass_marked-clause-alone
returns-in-Err-pass_marked-clause-alone g c =
    let e = c.in-Err-pass_marked.ensures in
    put_refused c.in-Err-pass_marked.refusal c.from-in-Err-pass_marked.ensures e.cause e.lack c.in-Ok.ensures.stepped.cause.later c.in-Ok.ensures.stepped.lack.later

pub returns-in-Ok-flush-clause-alone : goal.returns-in-Ok-flush-clause-alone
returns-in-Ok-flush-clause-alone g c =
    let terms = c.in-Ok.ensures.stepped in
    let rows = c.in-Ok-pass_marked.ensures in
    let e = c.in-Ok-flush.ensures.put in
    put_done (omega (arith, terms.cause.later, rows.cause.later, e.cause.later)) (omega (arith, terms.lack.later, rows.lack.later, e.lack.later))

pub returns-in-Err-flush-clause-alone : goal.returns-in-Err-flush-clause-alone
returns-in-Err-flush-clause-alone g c =
    let terms = c.in-Ok.ensures.stepped in
    let rows = c.in-Ok-pass_marked.ensures in
    let e = c.in-Err-flush.ensures.put in
    put_refused c.in-Err-flush.refusal c.from-in-Err-flush.ensures e.cause e.lack (omega (arith, terms.cause.later, rows.cause.later)) (omega (arith, terms.lack.later, rows.lack.later))
