use Rattle.std.proofs.Common.{List, ℕ, sym, subst}
use Rattle.mg_defs.specs.declared.session.Settings.{Settings}
use Rattle.mg_dev.specs.Streams.{AfterPut}
use Rattle.mg_session.specs.Searching.{state_of}
use Rattle.mg_session.proofs.DecidedLaws.{phrase_ok}
use Rattle.mg_session.proofs.PhraseReplyLaws.{phrases_asked}
use Rattle.mg_session.proofs.ReplyLaws.{line_part, line_written}
use Rattle.mg_session.proofs.phrase_searcher.PhraseSearcherAnswerer.answer_line.Goals as goal

pub returns : goal.returns
returns g c = record {
  answered = record {
    fits = c.answer_question.ensures.stepped.fits;
    content = λ by answers. subst (λ (r : Settings → List ℕ → List ℕ).
        AfterPut (g.O.Sink.written c.args.out.now) (g.O.Sink.written c.answer_question.new.out) (r c.args._now.now c.args.line.now) c.answer_question.result)
        (sym answers.by_is)
        (c.answer_question.ensures.answer answers.code answers.collection answers.over).put;
    after = phrases_asked
        (state_of (g.S.Store.files c.args.dev.now) (g.S.Store.reads c.args.dev.now) (g.S.Store.faults c.args.dev.now) c.args.self.now)
        (state_of (g.S.Store.files c.answer_question.new.store) (g.S.Store.reads c.answer_question.new.store) (g.S.Store.faults c.answer_question.new.store) c.answer_question.new.self)
        _ _ _ _ _ c.answer_question.ensures.stepped.step c.answer_question.ensures.stepped.same c.answer_question.ensures.answer;
    printed = phrase_ok _ _ _ c.args.self.now _ _ c.answer_question.ensures.printed;
    later = c.answer_question.ensures.stepped.cause.output;
    write = line_written _ _ _ _ _ c.answer_question.ensures.stepped.cause;
    part = line_part
        (state_of (g.S.Store.files c.args.dev.now) (g.S.Store.reads c.args.dev.now) (g.S.Store.faults c.args.dev.now) c.args.self.now)
        (state_of (g.S.Store.files c.answer_question.new.store) (g.S.Store.reads c.answer_question.new.store) (g.S.Store.faults c.answer_question.new.store) c.answer_question.new.self)
        _ _ _ c.answer_question.ensures.stepped.cause (λ code collection over. (c.answer_question.ensures.answer code collection over).sound);
  };
}
