use Rattle.std.proofs.Common.{◌≡◌, refl, sym, ◌∙◌, arith}
use Rattle.mg_make.proofs.Frames.{index_kept}
use Rattle.mg_make.proofs.MarkFronts.{open_at_stop}
use Rattle.mg_make.proofs.PassLaws.{pass_none, pass_refused, text_done, text_refused}
use Rattle.mg_make.proofs.SecondSteps.{wrote_stop}
use Rattle.mg_make.proofs.Stopping.{other_stop, stops_pairs, tells_fewer_pairs}
use Rattle.mg_make.proofs.second.SecondPassMarkWriter.end_if.Goals as goal
use Rattle.mg_make.proofs.second.SecondPassMarkWriter.end_if.Goals.{in-Ok, in-Err}

pub returns-then-not-ends : goal.returns-then-not-ends
returns-then-not-ends g c = rw c.if-not-ends.true pass_none

pub end_doc-requires-clause-begun : goal.end_doc-requires-clause-begun
end_doc-requires-clause-begun g c =
    let n = rw (c.if-not-ends.false, ← c.self.view_is) at c.requires.next in
    n.written.is_open ∙ open_at_stop n.met n.collection n.front

pub returns-then-self-gt0 : goal.returns-then-self-gt0
returns-then-self-gt0 g c =
    let n = rw (c.if-not-ends.false, ← c.self.view_is) at c.requires.next in
    let is_open = n.written.is_open ∙ open_at_stop n.met n.collection n.front in
    let tell = rw (← c.self.view_is) at c.other_pairs.ensures.fewer in
    let told = tell c.if-self-gt0.true in
    rw (c.if-not-ends.false, ← c.self.view_is)
    (pass_refused (record {
      cause = λ met collection is front.
          stops_pairs _ _ _ _ _ told (λ e. omega (arith, e, n.written.put is_open, c.if-self-gt0.true)) (other_stop _ _ met collection is front is_open c.if-self-gt0.true);
      tells = λ met collection is front. tells_fewer_pairs _ _ met collection _ is front is_open c.if-self-gt0.true told;
    }))

pub returns : goal.returns
returns g c =
    let n = rw (c.if-not-ends.false, ← c.self.view_is) at c.requires.next in
    let e = c.end_doc.ensures in
    let none : c.self.inside.left ≡ 0 = omega (arith, c.if-self-gt0.false) in
    elim c.match-end_doc.branch [
      | in-Ok w ↦
          rw (w.result-is, c.if-not-ends.false, ← c.self.view_is)
          (text_done (record { base = n.written.text_base; told = e.told; others = λ m a b. e.others m a; reads = e.reads; faults = e.cause.later })
          (record { base = refl; plan = refl; limit = refl })
          (record {
            behind = λ met is.
                wrote_stop _ _ _ _ met none w.in-Ok.ensures.took w.in-Ok.ensures.numbers e.base
                (λ terms fed taken. index_kept c.runs_stay.ensures.fed _ _ _ _ terms fed (is.text_base ∙ sym is.runs_base) e.told (λ m a b. e.others m a) taken) is;
          }))
      | in-Err w ↦
          rw (w.result-is, c.if-not-ends.false, ← c.self.view_is)
          (text_refused (record { base = n.written.text_base; told = e.told; others = λ m a b. e.others m a; reads = e.reads; faults = e.cause.later })
          w.in-Err.ensures.cause w.of_store.ensures)
    ]
