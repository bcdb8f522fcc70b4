use Rattle.std.proofs.Common.{arith, ℕ, List, length, sym, ap, subst}
use Rattle.std.specs.Prelude.{OnOk}
use Rattle.std.specs.declared.option.Option.{Option}
use Rattle.mg_bool.specs.Places.{AreInfos}
use Rattle.mg_layout.specs.declared.term_info.TermInfo.{TermInfo}
use Rattle.mg_lex.specs.Reading.{LexStands}
use Rattle.mg_session.specs.Decided.{TermsTold, TermsToldPrinted}
use Rattle.mg_session.specs.DocStands.{AreRowsOf, IsDocOf}
use Rattle.mg_front.specs.Looks.{looks}
use Rattle.mg_session.specs.LookLaws.{looks_for}
use Rattle.mg_session.specs.Searching.{Opened, OpenedOver}
use Rattle.mg_session.proofs.DecidedLaws.{told_ranked}
use Rattle.mg_session.proofs.DocStandsLaws.{docs_moved}
use Rattle.mg_session.proofs.CallLaws.{opened_answered, opened_refused, opened_showable}
use Rattle.mg_session.proofs.ReplyLaws.{answered_behind, answers_for, nothing_answered, part_sound}
use Rattle.mg_session.proofs.StepLaws.{lex_keeps, lex_text}
use Rattle.mg_session.proofs.searcher.Searcher.answer_distinct.Goals as goal

pub returns-in-Err : goal.returns-in-Err
returns-in-Err g c = record {
  answer = λ code collection over.
      nothing_answered code collection _ _ _ _ _ _ _
      (part_sound c.in-Err.refusal _ _ c.from.ensures (c.in-Err.ensures.answer over.version collection over.limits
      (subst (λ (o : Opened). LexStands o.lex (g.S.Store.files c.args.store.now) collection) (sym c.self.view_is) over.lex)))
      (lex_keeps c.in-Err.ensures.looked) (lex_text _ _ _ _ _ _ c.in-Err.ensures.looked);
  printed = tt;
  stepped = let e = c.in-Err.ensures in
      let reads = looks_for (looks c.self.inside.lex.count) c.as_slice.ensures e.reads in
      opened_refused (length c.args.terms.now) c.self.view_is c.requires.fits e.fits e.same e.looked reads c.in-Err.refusal c.from.ensures e.cause;
}

pub answer_terms-requires-clause-few : goal.answer_terms-requires-clause-few
answer_terms-requires-clause-few g c = omega (arith, ap length c.deref.ensures.value, c.in-Ok.ensures.told.size, ap length c.as_slice.ensures, c.requires.few)

pub answer_terms-requires-clause-showable : goal.answer_terms-requires-clause-showable
answer_terms-requires-clause-showable g c = let e = c.in-Ok.ensures in opened_showable (length c.args.terms.now) c.self.view_is c.requires.fits e.fits e.same e.looked
    (looks_for (looks c.self.inside.lex.count) c.as_slice.ensures e.reads)

pub returns : goal.returns
returns g c = record {
  answer = λ code collection over.
      let own : Opened = record { base = c.self.inside.lists.base.now; lex = c.self.inside.lex; texts = c.self.inside.texts; all = c.self.inside.lists.all } in
      let own_over : OpenedOver (g.S.Store.files c.args.store.now) own code collection = subst
      (λ (o : Opened). OpenedOver (g.S.Store.files c.args.store.now) o code collection) (sym c.self.view_is) over in
      let told = c.in-Ok.ensures.answer own_over.version collection own_over.limits own_over.lex in
      let same : AreInfos collection c.args.terms.now c.deref.result.now = subst (λ (xs : List (Option TermInfo)). AreInfos collection c.args.terms.now xs)
      (sym c.deref.ensures.value) (subst (λ (ts : List (List ℕ)). AreInfos collection ts c.in-Ok.infos.items) (c.as_slice.ensures) told) in
      let stands = answers_for _ _ own code collection c.in-Ok.ensures.looked.files own_over in
      answered_behind code collection _ _ _ _ _ _ (g.S.Store.reads c.find_terms.new.store) _ _
      (c.answer_terms.ensures.answer code collection stands c.args.terms.now same c.requires.apart)
      (lex_keeps c.in-Ok.ensures.looked) (lex_text _ _ _ _ _ _ c.in-Ok.ensures.looked);
  printed =
      let same : TermsTold c.self.inside.lex (g.S.Store.files c.args.store.now) c.args.terms.now c.deref.result.now =
      subst (λ (xs : List (Option TermInfo)). TermsTold c.self.inside.lex (g.S.Store.files c.args.store.now) c.args.terms.now xs) (sym c.deref.ensures.value)
      (subst (λ (ts : List (List ℕ)). TermsTold c.self.inside.lex (g.S.Store.files c.args.store.now) ts c.in-Ok.infos.items) c.as_slice.ensures
      c.in-Ok.ensures.told) in
      docs_moved c.self.view_is c.in-Ok.ensures.looked.files (λ IsDoc. OnOk c.answer_terms.result (TermsToldPrinted c.args.terms.now (g.S.Store.files c.args.store.now) c.args.self.now
      (AreRowsOf IsDoc c.args.now.now.mode) (g.O.Sink.written c.args.out.now) (g.O.Sink.written c.answer_terms.new.out)))
      (told_ranked (AreRowsOf (IsDocOf c.self.inside.texts (g.S.Store.files c.find_terms.new.store)) c.args.now.now.mode) _ _ c.answer_terms.result c.self.view_is same
      c.answer_terms.ensures.printed);
  stepped = let e = c.in-Ok.ensures in
      let reads = looks_for (looks c.self.inside.lex.count) c.as_slice.ensures e.reads in
      opened_answered (length c.args.terms.now) c.self.view_is c.requires.fits e.fits e.same e.looked reads c.answer_terms.ensures.stepped;
}
