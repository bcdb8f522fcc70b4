use Rattle.mg_session.proofs.CallLaws.{opened_lacked}
use Rattle.mg_session.proofs.PhraseReplyLaws.{none_answered}
use Rattle.mg_session.proofs.phrase_searcher.PhraseSearcher.answer_parsed.Goals as goal

pub answer_joined-requires-clause-can : goal.answer_joined-requires-clause-can
answer_joined-requires-clause-can g c = c.requires

pub answer_joined-requires-clause-joined : goal.answer_joined-requires-clause-joined
answer_joined-requires-clause-joined g c = c.in-Ok.ensures

pub returns-in-Ok : goal.returns-in-Ok
returns-in-Ok g c = c.answer_joined.ensures

pub returns-in-Err : goal.returns-in-Err
returns-in-Err g c = record {
  answer = λ code collection over. none_answered code collection c.args.phrase.now _ _;
  printed = λ t us words. tt;
  stepped = opened_lacked c.requires.fits;
}
