use Rattle.std.proofs.Common.{arith, refl, subst, sym}
use Rattle.mg_session.specs.WildSearchLaws.{lists_none, same_wild}
use Rattle.mg_session.specs.WildSearching.{IsReady, PartsAreOf, WildParts}
use Rattle.mg_session.proofs.WildPageLaws.{line_bound}
use Rattle.mg_session.proofs.WildReplyLaws.{line_matched}
use Rattle.mg_session.proofs.WildTermsLaws.{pattern_step, same_as}
use Rattle.mg_session.proofs.wild_searcher.WildSearcher.answer_question.Goals as goal

pub returns-in-Err-clause-ready : goal.returns-in-Err-clause-ready
returns-in-Err-clause-ready g c = c.requires.ready

pub returns-in-Err-clause-same : goal.returns-in-Err-clause-same
returns-in-Err-clause-same g c = same_wild _

pub returns-in-Err-clause-replied : goal.returns-in-Err-clause-replied
returns-in-Err-clause-replied g c = λ collection over. c.refuse_pattern.ensures.replied c.args.line.now c.in-Err.ensures.refused collection

pub returns-in-Err-clause-stepped : goal.returns-in-Err-clause-stepped
returns-in-Err-clause-stepped g c =
    let told = c.refuse_pattern.ensures.alone in
    record { step = lists_none _ _ _; cause = told.cause _; lack = told.lack }

-- ---- a pattern

pub answer-requires-clause-fits : goal.answer-requires-clause-fits
answer-requires-clause-fits g c = (subst (λ (o : WildParts). IsReady (g.S.Store.files c.args.store.now) o) (sym c.self.view_is) c.requires.ready).terms

pub answer-requires-clause-room : goal.answer-requires-clause-room
answer-requires-clause-room g c = (subst (λ (o : WildParts). IsReady (g.S.Store.files c.args.store.now) o) (sym c.self.view_is) c.requires.ready).room

pub returns-clause-ready : goal.returns-clause-ready
returns-clause-ready g c = record { room = c.answer.ensures.room; terms = c.answer.ensures.asked.fits }

pub returns-clause-same : goal.returns-clause-same
returns-clause-same g c = same_as c.self.view_is (record { base = refl; terms = c.answer.ensures.asked.same; all = refl })

pub returns-clause-replied : goal.returns-clause-replied
returns-clause-replied g c = λ collection over.
    let own : WildParts = record { base = c.self.inside.lists.base.now; terms = c.self.inside.terms; all = c.self.inside.lists.all; room = c.self.inside.marked.all } in
    let own_over : PartsAreOf (g.S.Store.files c.args.store.now) own collection = subst (λ (o : WildParts). PartsAreOf (g.S.Store.files c.args.store.now) o collection) (sym c.self.view_is) over in
    line_matched collection _ _ _ _ _ c.in-Ok.ensures.reads (c.answer.ensures.asked.answer collection own_over)

pub returns-clause-pages : goal.returns-clause-pages
returns-clause-pages g c = λ collection over.
    let own : WildParts = record { base = c.self.inside.lists.base.now; terms = c.self.inside.terms; all = c.self.inside.lists.all; room = c.self.inside.marked.all } in
    let own_over : PartsAreOf (g.S.Store.files c.args.store.now) own collection = subst (λ (o : WildParts). PartsAreOf (g.S.Store.files c.args.store.now) o collection) (sym c.self.view_is) over in
    omega (arith, c.answer.ensures.asked.pages collection own_over, line_bound collection c.args.line.now _ c.in-Ok.ensures.reads)

pub returns-clause-stepped : goal.returns-clause-stepped
returns-clause-stepped g c = pattern_step c.args.line.now c.self.view_is c.in-Ok.ensures.reads c.answer.ensures.asked.stepped
