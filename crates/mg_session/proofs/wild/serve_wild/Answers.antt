use Rattle.std.proofs.Common.{arith}
use Rattle.mg_session.specs.WildSearching.{wild_state}
use Rattle.mg_session.proofs.MatchedLaws.{matched, no_head, no_set}
use Rattle.mg_session.proofs.wild.serve_wild.Goals as goal

pub returns-in-Err-clause-matched : goal.returns-in-Err-clause-matched
returns-in-Err-clause-matched g c = λ err err_now. no_head c.in-Err.fault c.in-Err.ensures.opened

pub returns-in-Err-open-clause-matched : goal.returns-in-Err-open-clause-matched
returns-in-Err-open-clause-matched g c = λ err err_now.
    no_set c.in-Ok.head c.in-Err-open.fault c.in-Ok.ensures.opened c.in-Err-open.ensures.opened c.in-Err-open.ensures.many

pub returns-clause-matched : goal.returns-clause-matched
returns-clause-matched g c = λ err err_now.
    matched
    (wild_state (g.S.Store.files c.open.new.store) (g.S.Store.reads c.open.new.store) (g.S.Store.faults c.open.new.store) c.in-Ok-open.searcher)
    (wild_state (g.S.Store.files c.answer_lines.new.dev) (g.S.Store.reads c.answer_lines.new.dev) (g.S.Store.faults c.answer_lines.new.dev) c.answer_lines.ensures.served.0)
    c.in-Ok.head c.answer_lines.result c.in-Ok.ensures.opened c.in-Ok-open.ensures.opened c.in-Ok-open.ensures.many c.answer_lines.ensures.served.1

pub returns-in-Err-clause-later : goal.returns-in-Err-clause-later
returns-in-Err-clause-later g c = c.in-Err.ensures.opened.faults

pub returns-in-Err-open-clause-later : goal.returns-in-Err-open-clause-later
returns-in-Err-open-clause-later g c = omega (arith, c.in-Ok.ensures.opened.faults, c.in-Err-open.ensures.opened.faults)

pub returns-clause-later : goal.returns-clause-later
returns-clause-later g c = omega (arith, c.in-Ok.ensures.opened.faults, c.in-Ok-open.ensures.opened.faults, c.answer_lines.ensures.served.1.answered.after.step.faults)
