use Rattle.std.proofs.Common.{arith, subst, sym, ◌∙◌}
use Rattle.mg_wild.specs.Terms.{LexTerms}
use Rattle.mg_session.specs.WildAnswers.{WildSources}
use Rattle.mg_session.specs.WildMarks.{AreNumbersOf}
use Rattle.mg_session.proofs.CallLaws.{part_cause, part_lack}
use Rattle.mg_session.proofs.ReplyLaws.{part_sound}
use Rattle.mg_session.proofs.StepLaws.{cause_after}
use Rattle.mg_session.proofs.WildPageLaws.{pattern_bound}
use Rattle.mg_session.proofs.WildTextLaws.{lists_read, matched, nothing_read, numbers_below, wild_put, wild_stop}
use Rattle.mg_session.proofs.wild_answer.answer_pattern.Goals as goal

pub returns-in-Err-clause-answer : goal.returns-in-Err-clause-answer
returns-in-Err-clause-answer g c = λ collection sources. wild_stop collection _ _ _ tt

pub mark_all-requires-clause-numbers : goal.mark_all-requires-clause-numbers
mark_all-requires-clause-numbers g c =
    subst (λ (t : LexTerms). AreNumbersOf t c.as_slice-numbers.result.now) (sym c.matching.ensures.same)
    (record { told = sym c.len.ensures.infos ∙ c.len.ensures.terms; below = numbers_below _ c.args.terms.now.terms _ (c.as_slice-numbers.ensures ∙ c.in-Ok.ensures.found) })

pub show_matching-requires : goal.show_matching-requires
show_matching-requires g c = record {
  numbers = subst (λ (t : LexTerms). AreNumbersOf t c.as_slice-numbers.result.now) (sym c.matching.ensures.same)
      (record { told = sym c.len.ensures.infos ∙ c.len.ensures.terms; below = numbers_below _ c.args.terms.now.terms _ (c.as_slice-numbers.ensures ∙ c.in-Ok.ensures.found) });
}

pub returns-in-Ok-mark_all-clause-answer : goal.returns-in-Ok-mark_all-clause-answer
returns-in-Ok-mark_all-clause-answer g c = λ collection sources.
    let here = subst (λ (t : LexTerms). WildSources c.args.lists.now.base.now (g.S.Store.files c.args.store.now) t c.args.lists.now.all collection)
    (sym c.matching.ensures.same) sources in
    wild_put (matched c.args.lists.now.base.now _ c.args.terms.now c.args.lists.now.all collection _ _ c.clear.new.self c.mark_all.new.marked sources
    (c.as_slice-numbers.ensures ∙ c.in-Ok.ensures.found) c.clear.ensures.none (c.in-Ok-mark_all.ensures.answer collection here)
    c.in-Ok-mark_all.ensures.step.room)
    (c.show_matching.ensures.content collection here.terms_are here.infos_are) c.show_matching.ensures.alone.sound

pub returns-in-Ok-mark_all-clause-pages : goal.returns-in-Ok-mark_all-clause-pages
returns-in-Ok-mark_all-clause-pages g c = λ collection sources.
    let here = subst (λ (t : LexTerms). WildSources c.args.lists.now.base.now (g.S.Store.files c.args.store.now) t c.args.lists.now.all collection)
    (sym c.matching.ensures.same) sources in
    omega (arith, c.in-Ok-mark_all.ensures.pages collection here, pattern_bound collection _ c.args.terms.now.terms _ (c.as_slice-numbers.ensures ∙ c.in-Ok.ensures.found) sources.terms_are.terms)

pub returns-clause-answer : goal.returns-clause-answer
returns-clause-answer g c = λ collection sources.
    let here = subst (λ (t : LexTerms). WildSources c.args.lists.now.base.now (g.S.Store.files c.args.store.now) t c.args.lists.now.all collection)
    (sym c.matching.ensures.same) sources in
    wild_stop collection _ _ _ (part_sound c.in-Err-mark_all.refusal _ _ c.from.ensures (c.in-Err-mark_all.ensures.answer collection here))

pub returns-clause-pages : goal.returns-clause-pages
returns-clause-pages g c = λ collection sources.
    let here = subst (λ (t : LexTerms). WildSources c.args.lists.now.base.now (g.S.Store.files c.args.store.now) t c.args.lists.now.all collection)
    (sym c.matching.ensures.same) sources in
    omega (arith, c.in-Err-mark_all.ensures.pages collection here, pattern_bound collection _ c.args.terms.now.terms _ (c.as_slice-numbers.ensures ∙ c.in-Ok.ensures.found) sources.terms_are.terms)

-- ---- what is left of the store, and why it stops

pub returns-in-Err-clause-stepped : goal.returns-in-Err-clause-stepped
returns-in-Err-clause-stepped g c = record {
  step = nothing_read _ _ _;
  cause = record { store = omega arith; output = omega arith; caused = tt };
  lack = record { later = omega arith; lacked = tt };
}

pub returns-in-Ok-mark_all-clause-stepped : goal.returns-in-Ok-mark_all-clause-stepped
returns-in-Ok-mark_all-clause-stepped g c =
    let marked = c.in-Ok-mark_all.ensures.step in
    let shown = c.show_matching.ensures.alone in
    record {
      step = lists_read _ _ _ _ _ _ marked.files marked.cause.later marked.reads;
      cause = cause_after _ _ _ _ _ _ _ marked.cause.later (omega arith) (shown.cause _);
      lack = shown.lack;
    }

pub returns-clause-stepped : goal.returns-clause-stepped
returns-clause-stepped g c =
    let marked = c.in-Err-mark_all.ensures.step in
    record {
      step = lists_read _ _ _ _ _ _ marked.files marked.cause.later marked.reads;
      cause = part_cause c.in-Err-mark_all.refusal c.from.ensures marked.cause;
      lack = part_lack c.in-Err-mark_all.refusal c.from.ensures;
    }
