use Rattle.std.proofs.Common.{refl}
use Rattle.mg_session.proofs.PhraseTextsLaws.{known_mark, learnt_mark}
use Rattle.mg_session.proofs.marked.mark_at.Goals as goal

pub returns-in-Some : goal.returns-in-Some
returns-in-Some c = record {
  mark_is = known_mark _ c.args.marks.now c.args.symbol c.in-Some.mark c.requires.fit c.requires.of_word c.in-Some.ensures.0 c.in-Some.ensures.1;
  fit = c.requires.fit;
  phrase = refl;
}

pub returns-in-None : goal.returns-in-None
returns-in-None c = record {
  mark_is = learnt_mark _ c.args.marks.now.phrase c.args.symbol c.learn.result c.piece.result.now c.piece.ensures.piece c.learn.ensures.mark;
  fit = c.learn.ensures.fit _ c.piece.ensures.piece c.requires.fit;
  phrase = c.learn.ensures.phrase;
}
