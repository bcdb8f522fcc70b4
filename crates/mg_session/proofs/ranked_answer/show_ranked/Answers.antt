use Rattle.std.proofs.Common.{arith, refl}
use Rattle.mg_defs.specs.Texts.{count}
use Rattle.mg_session.specs.DocStands.{AreRowsOf, IsDocOf}
use Rattle.mg_session.proofs.CallLaws.{shown_around, shown_behind}
use Rattle.mg_session.proofs.DecidedLaws.{counted_behind}
use Rattle.mg_session.proofs.RankedLaws.{ranking_cut, ranking_put}
use Rattle.mg_session.proofs.ranked_answer.show_ranked.Goals as goal

pub show_rows-requires-clause-range : goal.show_rows-requires-clause-range
show_rows-requires-clause-range g c = rw c.rows.ensures c.requires.range

pub returns-in-Ok-clause-shown : goal.returns-in-Ok-clause-shown
returns-in-Ok-clause-shown g c = shown_around (rw c.rows.ensures at c.in-Ok.ensures.shown) c.put_total.ensures.alone (omega arith) (omega arith)
    (λ code collection is passed. ranking_put collection c.args.mode c.args.ranked.now.rows _ c.total.result _ _ _ (g.O.Sink.written c.put_total.new.out) _ _ c.put_total.result refl
    c.total.ensures c.new-pending.ensures passed c.put_total.ensures.content)

pub returns-in-Err-clause-shown : goal.returns-in-Err-clause-shown
returns-in-Err-clause-shown g c = shown_behind (rw c.rows.ensures at c.in-Err.ensures.shown) (omega arith) (omega arith)
    (λ code collection is cut. ranking_cut collection c.args.mode c.args.ranked.now.rows _ (count c.args.ranked.now.total) _ _ _ refl c.new-pending.ensures cut)

-- ---- what was put, whatever the text has

pub returns-in-Ok-clause-counted : goal.returns-in-Ok-clause-counted
returns-in-Ok-clause-counted g c =
    counted_behind _ (count c.args.ranked.now.total) c.put_total.result
    (AreRowsOf (IsDocOf (g.D.Documents.texts c.args.texts.now) (g.S.Store.files c.args.store.now)) c.args.mode c.args.ranked.now.rows)
    c.new-pending.ensures (rw c.rows.ensures at c.in-Ok.ensures.passed.1) c.in-Ok.ensures.passed.2 (rw c.total.ensures at c.put_total.ensures.content)

pub returns-in-Err-clause-counted : goal.returns-in-Err-clause-counted
returns-in-Err-clause-counted g c = tt
