use Rattle.std.proofs.Common.{arith, List, ℕ, sym, subst}
use Rattle.mg_defs.specs.declared.session.Settings.{Settings}
use Rattle.mg_dev.specs.Streams.{AfterPut}
use Rattle.mg_session.specs.WildSearching.{wild_state}
use Rattle.mg_session.proofs.ReplyLaws.{line_written}
use Rattle.mg_session.proofs.WildReplyLaws.{line_part, line_told}
use Rattle.mg_session.proofs.WildTermsLaws.{one_line}
use Rattle.mg_session.proofs.wild_searcher.WildSearcherAnswerer.answer_line.Goals as goal

pub returns-clause-content : goal.returns-clause-content
returns-clause-content g c = λ by answers. subst (λ (r : Settings → List ℕ → List ℕ).
    AfterPut (g.O.Sink.written c.args.out.now) (g.O.Sink.written c.answer_question.new.out) (r c.args._now.now c.args.line.now) c.answer_question.result)
    (sym answers.by_is)
    (c.answer_question.ensures.replied answers.collection answers.over).put

pub returns-clause-after : goal.returns-clause-after
returns-clause-after g c = record {
  step = one_line c.args.self.now c.answer_question.ensures.stepped.step;
  same = c.answer_question.ensures.same;
  post = λ collection over. omega (arith, c.answer_question.ensures.pages collection over);
}

pub returns-clause-part : goal.returns-clause-part
returns-clause-part g c = line_part
    (wild_state (g.S.Store.files c.args.dev.now) (g.S.Store.reads c.args.dev.now) (g.S.Store.faults c.args.dev.now) c.args.self.now)
    (wild_state (g.S.Store.files c.answer_question.new.store) (g.S.Store.reads c.answer_question.new.store) (g.S.Store.faults c.answer_question.new.store) c.answer_question.new.self)
    _ _ _ c.answer_question.ensures.stepped.cause (λ collection over. (c.answer_question.ensures.replied collection over).sound)

pub returns-clause-later : goal.returns-clause-later
returns-clause-later g c = c.answer_question.ensures.stepped.cause.output

pub returns-clause-write : goal.returns-clause-write
returns-clause-write g c = line_written _ _ _ _ _ c.answer_question.ensures.stepped.cause

pub returns-clause-printed : goal.returns-clause-printed
returns-clause-printed g c = line_told _ (λ collection over. c.answer_question.ensures.replied collection over)

pub returns-clause-fits : goal.returns-clause-fits
returns-clause-fits g c = c.answer_question.ensures.ready
