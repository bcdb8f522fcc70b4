use Rattle.mg_session.proofs.CallLaws.{opened_lacked}
use Rattle.mg_session.proofs.ReplyLaws.{none_answered}
use Rattle.mg_session.proofs.searcher.Searcher.answer_parsed.Goals as goal

pub returns-in-Err : goal.returns-in-Err
returns-in-Err g c = record {
  answer = λ code collection over. none_answered _ _ _ _ _ _ _;
  printed = tt;
  stepped = opened_lacked c.requires.fits;
}

pub returns-in-Ok : goal.returns-in-Ok
returns-in-Ok g c = c.answer_known.ensures
