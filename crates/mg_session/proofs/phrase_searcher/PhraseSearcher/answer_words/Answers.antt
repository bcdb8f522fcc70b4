use Rattle.std.proofs.Common.{arith, ℕ, List, length, sym, ◌∙◌, ap, subst}
use Rattle.std.specs.Prelude.{OnOk}
use Rattle.std.specs.declared.option.Option.{Option}
use Rattle.mg_defs.specs.QueryTerms.{query_terms}
use Rattle.mg_bool.specs.Places.{AreInfos}
use Rattle.mg_layout.specs.declared.term_info.TermInfo.{TermInfo}
use Rattle.mg_lex.specs.Reading.{LexStands}
use Rattle.mg_query.specs.QueryOf.{query_of}
use Rattle.mg_session.specs.Decided.{PhraseRow, PrintsTold, QueryToldPrinted, TermsTold}
use Rattle.mg_session.specs.DocStands.{ArePlacesIn}
use Rattle.mg_front.specs.Looks.{looks}
use Rattle.mg_session.specs.LookLaws.{looks_for}
use Rattle.mg_session.specs.Searching.{Opened, OpenedOver}
use Rattle.mg_session.proofs.DecidedLaws.{joined_words, told_printed}
use Rattle.mg_session.proofs.DocStandsLaws.{places_moved}
use Rattle.mg_session.proofs.CallLaws.{opened_answered, opened_refused, opened_showable}
use Rattle.mg_session.proofs.PhraseReplyLaws.{answered_behind, nothing_answered}
use Rattle.mg_session.proofs.PhraseWalkLaws.{terms_joined}
use Rattle.mg_session.proofs.ReplyLaws.{answers_for, part_sound}
use Rattle.mg_session.proofs.StepLaws.{lex_keeps, lex_text}
use Rattle.mg_session.proofs.phrase_searcher.PhraseSearcher.answer_words.Goals as goal

pub returns-in-Err : goal.returns-in-Err
returns-in-Err g c = record {
  answer = λ code collection over.
      nothing_answered code collection _ _ _ _ _
      (part_sound c.in-Err.refusal _ _ c.from.ensures (c.in-Err.ensures.answer over.version collection over.limits
      (subst (λ (o : Opened). LexStands o.lex (g.S.Store.files c.args.store.now) collection) (sym c.self.view_is) over.lex)))
      (lex_keeps c.in-Err.ensures.looked) (lex_text _ _ _ _ _ _ c.in-Err.ensures.looked);
  printed = λ t us words. tt;
  stepped = let e = c.in-Err.ensures in
      let reads = looks_for (looks c.self.inside.lex.count) c.as_slice.ensures e.reads in
      opened_refused (length c.args.phrase.now) c.self.view_is c.requires.can.fits e.fits e.same e.looked reads c.in-Err.refusal c.from.ensures e.cause;
}

pub answer_phrase-requires-clause-size : goal.answer_phrase-requires-clause-size
answer_phrase-requires-clause-size g c =
    omega (arith, ap length c.deref.ensures.value, c.in-Ok.ensures.told.size, ap length c.as_slice.ensures, ap length (terms_joined c.args.phrase.now c.args.query.now c.requires.joined))

pub answer_phrase-requires-clause-showable : goal.answer_phrase-requires-clause-showable
answer_phrase-requires-clause-showable g c = let e = c.in-Ok.ensures in opened_showable (length c.args.phrase.now) c.self.view_is c.requires.can.fits e.fits e.same e.looked
    (looks_for (looks c.self.inside.lex.count) c.as_slice.ensures e.reads)

pub returns : goal.returns
returns g c = record {
  answer = λ code collection over.
      let own : Opened = record { base = c.self.inside.lists.base.now; lex = c.self.inside.lex; texts = c.self.inside.texts; all = c.self.inside.lists.all } in
      let own_over : OpenedOver (g.S.Store.files c.args.store.now) own code collection = subst
      (λ (o : Opened). OpenedOver (g.S.Store.files c.args.store.now) o code collection) (sym c.self.view_is) over in
      let told = c.in-Ok.ensures.answer own_over.version collection own_over.limits own_over.lex in
      let terms = c.as_slice.ensures ∙ sym (terms_joined c.args.phrase.now c.args.query.now c.requires.joined) in
      let same : AreInfos collection (query_terms (query_of c.args.query.now)) c.deref.result.now =
      subst (λ (xs : List (Option TermInfo)). AreInfos collection (query_terms (query_of c.args.query.now)) xs) (sym c.deref.ensures.value)
      (subst (λ (ts : List (List ℕ)). AreInfos collection ts c.in-Ok.infos.items) terms told) in
      let stands = answers_for _ _ own code collection c.in-Ok.ensures.looked.files own_over in
      answered_behind code collection c.args.phrase.now _ _ _ (g.S.Store.reads c.find_terms.new.store) _ _
      (c.answer_phrase.ensures.answer code collection stands same)
      (lex_keeps c.in-Ok.ensures.looked) (lex_text _ _ _ _ _ _ c.in-Ok.ensures.looked);
  printed = λ t us words. subst (λ q. PrintsTold (g.O.Sink.written c.args.out.now) (g.O.Sink.written c.answer_phrase.new.out) c.answer_phrase.result
      (g.S.Store.files c.args.store.now) c.args.self.now q
      (PhraseRow (ArePlacesIn c.args.self.now.texts (g.S.Store.files c.args.store.now) c.args.phrase.now)))
      (joined_words c.args.phrase.now t us c.args.query.now c.requires.joined words)
      (let terms = c.as_slice.ensures ∙ sym (terms_joined c.args.phrase.now c.args.query.now c.requires.joined) in
      let same : TermsTold c.self.inside.lex (g.S.Store.files c.args.store.now) (query_terms (query_of c.args.query.now)) c.deref.result.now =
      subst (λ (xs : List (Option TermInfo)). TermsTold c.self.inside.lex (g.S.Store.files c.args.store.now) (query_terms (query_of c.args.query.now)) xs)
      (sym c.deref.ensures.value)
      (subst (λ (ts : List (List ℕ)). TermsTold c.self.inside.lex (g.S.Store.files c.args.store.now) ts c.in-Ok.infos.items) terms c.in-Ok.ensures.told) in
      places_moved c.self.view_is c.in-Ok.ensures.looked.files c.args.phrase.now (λ ArePlaces. OnOk c.answer_phrase.result (QueryToldPrinted (query_of c.args.query.now)
      (g.S.Store.files c.args.store.now) c.args.self.now (PhraseRow ArePlaces) (g.O.Sink.written c.args.out.now) (g.O.Sink.written c.answer_phrase.new.out)))
      (told_printed (query_of c.args.query.now) (PhraseRow (ArePlacesIn c.self.inside.texts (g.S.Store.files c.find_terms.new.store) c.args.phrase.now)) _ _ c.answer_phrase.result
      c.self.view_is c.in-Ok.ensures.looked.files same c.answer_phrase.ensures.printed));
  stepped = let e = c.in-Ok.ensures in
      let reads = looks_for (looks c.self.inside.lex.count) c.as_slice.ensures e.reads in
      opened_answered (length c.args.phrase.now) c.self.view_is c.requires.can.fits e.fits e.same e.looked reads c.answer_phrase.ensures.stepped;
}
