use Rattle.std.proofs.Common.{◌≤◌, ◌<◌, ◌∙◌, refl, length, ap, arith}
use Rattle.mg_count.specs.Plans.{Plan}
use Rattle.mg_make.proofs.Finishing.{fewer_documents, tells_fewer_documents, whole_is_closed}
use Rattle.mg_make.proofs.SecondSteps.{none_open}
use Rattle.mg_make.proofs.Stopping.{stops_store, tells_store}
use Rattle.mg_make.proofs.second.SecondPassMarkWriter.end_text.Goals as goal
use Rattle.mg_make.proofs.second.SecondPassMarkWriter.end_text.Goals.{in-Ok, in-Err}

pub returns-then-self-len : goal.returns-then-self-len
returns-then-self-len g c =
    let long = ap (λ (p : Plan). length p.pairs) (c.plan.view_is ∙ c.plan-plan.ensures) in
    let few : c.self.inside.doc < length c.self.inside.pieces.pairs = omega (arith, long, c.len.ensures, c.if-self-len.true) in
    rw (← c.self.view_is)
    (record {
      index = refl;
      all = tt;
      stands = tt;
      answer = tt;
      told = refl;
      others = λ name away far. refl;
      reads = λ p. refl;
      faults = omega arith;
      refused = λ collection is. ((λ e. omega (arith, e, long, c.len-then-self-len.ensures, c.from.ensures, few)), fewer_documents _ _ collection is few);
      tells = λ collection is.
          tells_fewer_documents _ _ collection _ _ is few (omega (arith, long, c.len-then-self-len.ensures)) (omega (arith, c.from.ensures));
    })

pub finish-requires-clause-closed : goal.finish-requires-clause-closed
finish-requires-clause-closed g c =
    let whole = rw (← c.self.view_is) at c.requires.whole in
    whole_is_closed _ _ whole

pub finish-requires-clause-took : goal.finish-requires-clause-took
finish-requires-clause-took g c =
    let whole = rw (← c.self.view_is) at c.requires.whole in
    (_, none_open _ _ _ (whole_is_closed _ _ whole) whole.written)

pub returns : goal.returns
returns g c =
    let long = ap (λ (p : Plan). length p.pairs) (c.plan.view_is ∙ c.plan-plan.ensures) in
    let all : length c.self.inside.pieces.pairs ≤ c.self.inside.doc = omega (arith, long, c.len.ensures, c.if-self-len.false) in
    let e = c.finish.ensures in
    elim c.match-finish.branch [
      | in-Ok w ↦
          rw (w.result-is, ← c.self.view_is)
          (record {
            index = refl;
            all = all;
            stands = w.in-Ok.ensures.finished;
            answer = w.in-Ok.ensures.answer;
            told = e.told;
            others = e.others;
            reads = e.reads;
            faults = e.cause.later;
            refused = tt;
            tells = tt;
          })
      | in-Err w ↦
          rw (w.result-is, ← c.self.view_is)
          (record {
            index = refl;
            all = tt;
            stands = tt;
            answer = tt;
            told = e.told;
            others = e.others;
            reads = e.reads;
            faults = e.cause.later;
            refused = λ collection is. stops_store _ _ _ _ w.of_store.ensures w.in-Err.ensures.cause.failed;
            tells = λ collection is. tells_store _ collection _ _ w.of_store.ensures;
          })
    ]
