use Rattle.std.proofs.Common.{refl, ◌≡◌, ◌≤◌, ◌<◌, length, get_or, sym, ap, ◌∙◌, arith}
use Rattle.mg_count.specs.Plans.{Plan}
use Rattle.mg_make.proofs.Frames.{index_kept}
use Rattle.mg_make.proofs.MarkFronts.{closed_at_start}
use Rattle.mg_make.proofs.PassLaws.{pass_none, pass_refused, text_done, text_refused}
use Rattle.mg_make.proofs.SecondSteps.{none_open, pairs_room, same_there, wrote_start}
use Rattle.mg_make.proofs.Stopping.{other_documents, tells_documents}
use Rattle.mg_make.proofs.second.SecondPassMarkWriter.begin_if.Goals as goal

pub returns-then-not-begins : goal.returns-then-not-begins
returns-then-not-begins g c = rw c.if-not-begins.true pass_none

pub returns-then-at-len : goal.returns-then-at-len
returns-then-at-len g c =
    let same : c.plan.inside.pairs.items ≡ c.self.inside.pieces.pairs = ap (λ (p : Plan). p.pairs) (c.plan.view_is ∙ c.plan-plan.ensures) in
    let long = ap length same in
    let all : length c.self.inside.pieces.pairs ≤ c.self.inside.doc = omega (arith, long, c.len.ensures, c.if-at-len.true) in
    rw (c.if-not-begins.false, ← c.self.view_is)
    (pass_refused (record {
      cause = λ met collection is front.
          ((λ e. omega (arith, e, long, c.len-then-at-len.ensures, c.from.ensures, is.within)), other_documents _ _ met collection is front all);
      tells = λ met collection is front.
          tells_documents _ _ met collection _ _ is front all (omega (arith, long, c.len-then-at-len.ensures)) (omega (arith, long, c.len-then-at-len.ensures, c.from.ensures, is.within, all));
    }))

pub begin_doc-requires-clause-closed : goal.begin_doc-requires-clause-closed
begin_doc-requires-clause-closed g c =
    let n = rw (c.if-not-begins.false, ← c.self.view_is) at c.requires.next in
    n.written.is_open ∙ closed_at_start n.met n.collection n.front

pub begin_doc-requires-clause-took : goal.begin_doc-requires-clause-took
begin_doc-requires-clause-took g c =
    let n = rw (c.if-not-begins.false, ← c.self.view_is) at c.requires.next in
    (_, none_open _ _ n.met (begin_doc-requires-clause-closed g c) n.written)

pub begin_doc-requires-clause-pairs : goal.begin_doc-requires-clause-pairs
begin_doc-requires-clause-pairs g c =
    let n = rw (c.if-not-begins.false, ← c.self.view_is) at c.requires.next in
    let same : c.plan.inside.pairs.items ≡ c.self.inside.pieces.pairs = ap (λ (p : Plan). p.pairs) (c.plan.view_is ∙ c.plan-plan.ensures) in
    let long = ap length same in
    let low : c.self.inside.doc < length c.self.inside.pieces.pairs = omega (arith, long, c.len.ensures, c.if-at-len.false) in
    let within : c.self.inside.doc < length c.plan.inside.pairs.items = omega (arith, long, low) in
    let here : c.index-pairs.result.now ≡ get_or c.self.inside.pieces.pairs c.self.inside.doc 0 = c.index-pairs.ensures ∙ same_there _ _ _ 0 within ∙ ap (λ ns. get_or ns c.self.inside.doc 0) same in
    let room = pairs_room _ _ n.met n.written low in
    omega (arith, room, here)

pub returns-in-Err : goal.returns-in-Err
returns-in-Err g c =
    let n = rw (c.if-not-begins.false, ← c.self.view_is) at c.requires.next in
    let e = c.in-Err.ensures in
    rw (c.if-not-begins.false, ← c.self.view_is)
    (text_refused (record { base = n.written.text_base; told = e.told; others = e.others; reads = e.reads; faults = e.cause.later }) e.cause c.of_store.ensures)

pub returns : goal.returns
returns g c =
    let n = rw (c.if-not-begins.false, ← c.self.view_is) at c.requires.next in
    let closed = n.written.is_open ∙ closed_at_start n.met n.collection n.front in
    let same : c.plan.inside.pairs.items ≡ c.self.inside.pieces.pairs = ap (λ (p : Plan). p.pairs) (c.plan.view_is ∙ c.plan-plan.ensures) in
    let long = ap length same in
    let low : c.self.inside.doc < length c.self.inside.pieces.pairs = omega (arith, long, c.len.ensures, c.if-at-len.false) in
    let within : c.self.inside.doc < length c.plan.inside.pairs.items = omega (arith, long, low) in
    let here : c.index-pairs.result.now ≡ get_or c.self.inside.pieces.pairs c.self.inside.doc 0 = c.index-pairs.ensures ∙ same_there _ _ _ 0 within ∙ ap (λ ns. get_or ns c.self.inside.doc 0) same in
    let e = c.in-Ok.ensures in
    rw (c.if-not-begins.false, c.from-2.ensures, ← c.self.view_is)
    (text_done (record { base = n.written.text_base; told = e.told; others = e.others; reads = e.reads; faults = e.cause.later })
    (record { base = refl; plan = refl; limit = refl })
    (record {
      behind = λ met is.
          wrote_start _ _ _ _ met c.index-pairs.result.now closed here low e.took e.numbers e.base
          (λ terms fed taken. index_kept c.runs_stay.ensures.fed _ _ _ _ terms fed (is.text_base ∙ sym is.runs_base) e.told e.others taken) is;
    }))
