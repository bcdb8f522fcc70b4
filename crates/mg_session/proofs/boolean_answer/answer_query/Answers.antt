use Rattle.std.proofs.Common.{sym, ◌∙◌, subst}
use Rattle.mg_defs.specs.ShownAnswers.{satisfying}
use Rattle.mg_query.specs.QueryOf.{query_of}
use Rattle.mg_query.specs.declared.query.Query.{Query}
use Rattle.mg_session.specs.Answering.{Answered}
use Rattle.mg_session.specs.Decided.{BooleanRow}
use Rattle.mg_session.specs.DocStands.{IsDocOf}
use Rattle.mg_session.specs.PagesAllowed.{query_allows}
use Rattle.mg_session.proofs.CallLaws.{text_lacked}
use Rattle.mg_session.proofs.DecidedLaws.{query_printed}
use Rattle.mg_session.proofs.ReplyLaws.{none_answered}
use Rattle.mg_session.proofs.boolean_answer.answer_query.Goals as goal

pub returns-in-Err : goal.returns-in-Err
returns-in-Err g c = record {
  answer = λ code collection stands told. none_answered _ _ _ _ _ _ _;
  printed = tt;
  stepped = text_lacked c.requires.showable.fits;
}

pub show_matches-requires-clause-showable : goal.show_matches-requires-clause-showable
show_matches-requires-clause-showable g c = record { fits = c.requires.showable.fits; all = c.requires.showable.all ∙ sym c.in-Ok.ensures.all }

pub show_matches-requires-clause-unasked : goal.show_matches-requires-clause-unasked
show_matches-requires-clause-unasked g c = record {
  on = (c.args.lists.now.base.now, c.in-Ok.ensures.fits _);
  stands = c.in-Ok.ensures.stands _;
  within = c.in-Ok.ensures.within;
  first = c.in-Ok.ensures.before;
}

pub returns : goal.returns
returns g c = record {
  answer = λ code collection stands told.
      subst (λ (a : Query). Answered code collection c.args.now.now (satisfying collection (query_of a)) (query_allows collection (query_of a))
      (g.O.Sink.written c.args.out.now) (g.O.Sink.written c.show_matches.new.out) (g.S.Store.reads c.args.store.now)
      (g.S.Store.reads c.show_matches.new.store) c.show_matches.result) c.in-Ok.ensures.asks
      (c.show_matches.ensures.answer c.args.lists.now.base.now code collection
      (record { weights = stands.weights; texts_are = stands.texts_are; all_is = c.in-Ok.ensures.all ∙ stands.all_is })
      (c.in-Ok.ensures.over collection told stands.all_is));
  printed = query_printed (g.S.Store.files c.args.store.now) (BooleanRow (IsDocOf (g.D.Documents.texts c.args.texts.now) (g.S.Store.files c.args.store.now)) c.args.now.now) _ _ c.in-Ok.matches c.show_matches.result c.in-Ok.ensures.asks
      c.in-Ok.ensures.all c.in-Ok.ensures.lists c.in-Ok.ensures.needs c.show_matches.ensures.printed;
  stepped = c.show_matches.ensures.stepped;
}
