use Rattle.std.proofs.Common.{ap, length, subst, sym}
use Rattle.mg_defs.specs.QueryTerms.{query_terms}
use Rattle.mg_query.specs.QueryOf.{query_of}
use Rattle.mg_query.specs.RefusalOf.{refusal_of}
use Rattle.mg_session.specs.Decided.{BooleanRow, PrintsTold}
use Rattle.mg_session.specs.DocStands.{IsDocOf}
use Rattle.mg_session.specs.PagesAllowed.{terms_as}
use Rattle.mg_session.proofs.DecidedLaws.{read_same, refused_printed}
use Rattle.mg_session.proofs.CallLaws.{line_told, opened_terms, opened_unread}
use Rattle.mg_session.proofs.ReplyLaws.{boolean_answered, boolean_refused}
use Rattle.mg_session.proofs.searcher.Searcher.answer_boolean.Goals as goal

pub returns-in-Err : goal.returns-in-Err
returns-in-Err g c = record {
  answer = λ code collection over.
      boolean_refused c.in-Err.why code collection _ _ c.in-Err.ensures.refused c.answer_refused.ensures.content c.answer_refused.ensures.cause;
  printed = λ q is told.
      refused_printed _ _ _ (refusal_of c.in-Err.why) q c.answer_refused.result c.in-Err.ensures.refused c.answer_refused.ensures.content is told;
  stepped = opened_unread c.requires.fits (line_told _ c.answer_refused.ensures.later c.answer_refused.ensures.lacks c.answer_refused.ensures.cause);
}

pub returns-in-Ok : goal.returns-in-Ok
returns-in-Ok g c = record {
  answer = λ code collection over.
      boolean_answered code collection (query_of c.in-Ok.query) c.in-Ok.ensures.reads (c.answer_parsed.ensures.answer code collection over);
  printed = λ q is told.
      subst (λ a. PrintsTold (g.O.Sink.written c.args.out.now) (g.O.Sink.written c.answer_parsed.new.out) c.answer_parsed.result
      (g.S.Store.files c.args.store.now) c.args.self.now a
      (BooleanRow (IsDocOf c.args.self.now.texts (g.S.Store.files c.args.store.now)) c.args.now.now)) (read_same c.in-Ok.ensures.reads is) c.answer_parsed.ensures.printed;
  stepped = opened_terms (sym (ap (λ r. length (terms_as query_terms r)) c.in-Ok.ensures.reads)) c.answer_parsed.ensures.stepped;
}
