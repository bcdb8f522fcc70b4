use Rattle.std.proofs.Common.{None, subst}
use Rattle.mg_query.specs.AllOf.{IsAllOf}
use Rattle.mg_session.proofs.CallLaws.{opened_unread}
use Rattle.mg_session.proofs.DecidedLaws.{no_words}
use Rattle.mg_session.proofs.PhraseReplyLaws.{none_counted}
use Rattle.mg_session.proofs.phrase_searcher.PhraseSearcher.answer_joined.Goals as goal

pub answer_words-requires-clause-can : goal.answer_words-requires-clause-can
answer_words-requires-clause-can g c = c.requires.can

pub answer_words-requires-clause-joined : goal.answer_words-requires-clause-joined
answer_words-requires-clause-joined g c = subst (IsAllOf c.args.phrase.now) c.in-Some.is c.requires.joined

pub returns-in-Some : goal.returns-in-Some
returns-in-Some g c = c.answer_words.ensures

pub returns-in-None : goal.returns-in-None
returns-in-None g c =
    let none : IsAllOf c.args.phrase.now None = subst (IsAllOf c.args.phrase.now) c.in-None.is c.requires.joined in
    record {
      answer = λ code collection over. none_counted code collection c.args.phrase.now _ _ _ _ none c.answer_none.ensures.content c.answer_none.ensures.alone.sound;
      printed = λ t us words. no_words c.args.phrase.now t us none words;
      stepped = opened_unread c.requires.can.fits c.answer_none.ensures.alone;
    }
