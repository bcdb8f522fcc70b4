use Rattle.std.proofs.Common.{ap, length, subst, sym}
use Rattle.mg_query.specs.RefusalOf.{refusal_of}
use Rattle.mg_session.specs.Decided.{PrintsWords}
use Rattle.mg_session.proofs.DecidedLaws.{read_same, refused_printed}
use Rattle.mg_session.proofs.CallLaws.{line_told, opened_terms, opened_unread}
use Rattle.mg_session.proofs.PhraseReplyLaws.{line_answered, line_refused, line_words, terms_read}
use Rattle.mg_session.proofs.phrase_searcher.PhraseSearcher.answer_question.Goals as goal

pub returns-in-Err : goal.returns-in-Err
returns-in-Err g c = record {
  answer = λ code collection over.
      line_refused c.in-Err.why code collection _ _ _ _ _ _ _ c.in-Err.ensures.refused c.answer_refused.ensures.content c.answer_refused.ensures.cause;
  printed = λ ts is told t us words.
      refused_printed _ _ _ (refusal_of c.in-Err.why) ts c.answer_refused.result c.in-Err.ensures.refused c.answer_refused.ensures.content is told;
  stepped = opened_unread c.requires.fits (line_told _ c.answer_refused.ensures.later c.answer_refused.ensures.lacks c.answer_refused.ensures.cause);
}

pub answer_parsed-requires : goal.answer_parsed-requires
answer_parsed-requires g c = record { few = line_words c.args.line.now c.in-Ok.phrase c.in-Ok.ensures.reads; fits = c.requires.fits }

pub returns-in-Ok : goal.returns-in-Ok
returns-in-Ok g c = record {
  answer = λ code collection over.
      line_answered code collection _ c.in-Ok.phrase c.in-Ok.ensures.reads (c.answer_parsed.ensures.answer code collection over);
  printed = λ ts is told.
      subst (λ xs. PrintsWords (g.O.Sink.written c.args.out.now) (g.O.Sink.written c.answer_parsed.new.out) c.answer_parsed.result
      (g.S.Store.files c.args.store.now) c.args.self.now xs) (read_same c.in-Ok.ensures.reads is) c.answer_parsed.ensures.printed;
  stepped = opened_terms (sym (ap length (terms_read c.args.line.now c.in-Ok.phrase c.in-Ok.ensures.reads))) c.answer_parsed.ensures.stepped;
}
