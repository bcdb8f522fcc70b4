use Rattle.std.proofs.Common.{ap, length, subst, sym}
use Rattle.mg_query.specs.RefusalOf.{refusal_of}
use Rattle.mg_session.specs.Decided.{RanksTold}
use Rattle.mg_session.specs.DocStands.{AreRowsOf, IsDocOf}
use Rattle.mg_session.specs.PagesAllowed.{terms_as}
use Rattle.mg_session.proofs.DecidedLaws.{read_same, refused_printed}
use Rattle.mg_session.proofs.CallLaws.{line_told, opened_terms, opened_unread}
use Rattle.mg_session.proofs.TermLaws.{line_terms}
use Rattle.mg_session.proofs.ReplyLaws.{ranked_answered, ranked_refused}
use Rattle.mg_session.proofs.searcher.Searcher.answer_ranked.Goals as goal

pub returns-in-Err : goal.returns-in-Err
returns-in-Err g c = record {
  answer = λ code collection over.
      ranked_refused c.in-Err.why code collection _ _ c.in-Err.ensures.refused c.answer_refused.ensures.content c.answer_refused.ensures.cause;
  printed = λ ts is told.
      refused_printed _ _ _ (refusal_of c.in-Err.why) ts c.answer_refused.result c.in-Err.ensures.refused c.answer_refused.ensures.content is told;
  stepped = opened_unread c.requires.fits (line_told _ c.answer_refused.ensures.later c.answer_refused.ensures.lacks c.answer_refused.ensures.cause);
}

pub answer_distinct-requires-clause-few : goal.answer_distinct-requires-clause-few
answer_distinct-requires-clause-few g c = (line_terms c.args.line.now c.in-Ok.terms c.in-Ok.ensures.reads).few

pub answer_distinct-requires-clause-apart : goal.answer_distinct-requires-clause-apart
answer_distinct-requires-clause-apart g c = (line_terms c.args.line.now c.in-Ok.terms c.in-Ok.ensures.reads).apart

pub returns-in-Ok : goal.returns-in-Ok
returns-in-Ok g c = record {
  answer = λ code collection over.
      ranked_answered code collection c.in-Ok.terms c.in-Ok.ensures.reads (c.answer_distinct.ensures.answer code collection over);
  printed = λ ts is told.
      subst (λ xs. RanksTold (g.O.Sink.written c.args.out.now) (g.O.Sink.written c.answer_distinct.new.out) c.answer_distinct.result
      (g.S.Store.files c.args.store.now) c.args.self.now xs
      (AreRowsOf (IsDocOf c.args.self.now.texts (g.S.Store.files c.args.store.now)) c.args.now.now.mode)) (read_same c.in-Ok.ensures.reads is) c.answer_distinct.ensures.printed;
  stepped = opened_terms (sym (ap (λ r. length (terms_as (λ ts. ts) r)) c.in-Ok.ensures.reads)) c.answer_distinct.ensures.stepped;
}
