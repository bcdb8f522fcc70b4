use Rattle.std.proofs.Common.{Bool, sym, subst}
use Rattle.mg_session.specs.Answering.{Replied}
use Rattle.mg_session.proofs.searcher.Searcher.answer_question.Goals as goal

pub returns-then-now : goal.returns-then-now
returns-then-now g c = record {
  answer = λ code collection over.
      subst (λ (by : Bool). Replied code collection by c.args.now.now c.args.line.now (g.O.Sink.written c.args.out.now) (g.O.Sink.written c.answer_ranked.new.out)
      (g.S.Store.reads c.args.store.now) (g.S.Store.reads c.answer_ranked.new.store) c.answer_ranked.result) (sym c.if-now.true)
      (c.answer_ranked.ensures.answer code collection over);
  printed = rw c.if-now.true c.answer_ranked.ensures.printed;
  stepped = rw c.if-now.true c.answer_ranked.ensures.stepped;
}

pub returns-else-now : goal.returns-else-now
returns-else-now g c = record {
  answer = λ code collection over.
      subst (λ (by : Bool). Replied code collection by c.args.now.now c.args.line.now (g.O.Sink.written c.args.out.now)
      (g.O.Sink.written c.answer_boolean.new.out) (g.S.Store.reads c.args.store.now) (g.S.Store.reads c.answer_boolean.new.store) c.answer_boolean.result)
      (sym c.if-now.false) (c.answer_boolean.ensures.answer code collection over);
  printed = rw c.if-now.false c.answer_boolean.ensures.printed;
  stepped = rw c.if-now.false c.answer_boolean.ensures.stepped;
}
