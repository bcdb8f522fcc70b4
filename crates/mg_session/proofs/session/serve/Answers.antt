use Rattle.std.proofs.Common.{arith}
use Rattle.mg_session.specs.Searching.{state_of}
use Rattle.mg_session.proofs.QueriedLaws.{no_head, no_set, queried}
use Rattle.mg_session.proofs.session.serve.Goals as goal

pub returns-in-Err-clause-queried : goal.returns-in-Err-clause-queried
returns-in-Err-clause-queried g c = λ err err_now. no_head c.in-Err.fault c.in-Err.ensures.opened

pub returns-in-Err-open-clause-queried : goal.returns-in-Err-open-clause-queried
returns-in-Err-open-clause-queried g c = λ err err_now. no_set c.in-Ok.head c.in-Err-open.fault c.in-Ok.ensures.opened c.in-Err-open.ensures.set

pub returns-clause-queried : goal.returns-clause-queried
returns-clause-queried g c = λ err err_now.
    queried
    (state_of (g.S.Store.files c.open.new.store) (g.S.Store.reads c.open.new.store) (g.S.Store.faults c.open.new.store) c.in-Ok-open.searcher)
    (state_of (g.S.Store.files c.answer_lines.new.dev) (g.S.Store.reads c.answer_lines.new.dev) (g.S.Store.faults c.answer_lines.new.dev) c.answer_lines.ensures.served.0)
    c.in-Ok.head c.answer_lines.result c.in-Ok.ensures.opened c.in-Ok-open.ensures.set c.in-Ok-open.ensures.parts c.answer_lines.ensures.served.1

pub returns-in-Err-clause-later : goal.returns-in-Err-clause-later
returns-in-Err-clause-later g c = c.in-Err.ensures.opened.faults

pub returns-in-Err-open-clause-later : goal.returns-in-Err-open-clause-later
returns-in-Err-open-clause-later g c = omega (arith, c.in-Ok.ensures.opened.faults, c.in-Err-open.ensures.set.faults)

pub returns-clause-later : goal.returns-clause-later
returns-clause-later g c = omega (arith, c.in-Ok.ensures.opened.faults, c.in-Ok-open.ensures.set.faults, c.answer_lines.ensures.served.1.answered.after.faults)
