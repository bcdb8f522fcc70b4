use Rattle.std.proofs.Common.{arith, sym, ap, ◌∙◌, Err}
use Rattle.mg_bool.proofs.AskLaws.{on_still}
use Rattle.mg_bool.proofs.CallLaws.{stepped}
use Rattle.mg_bool.proofs.ShownLaws.{first_next, first_none}
use Rattle.mg_bool.proofs.WalkLaws.{any_decides, any_err, any_none, any_reads, under_start, walk_end, walk_err, walk_hit, walk_more, walk_none}
use Rattle.mg_bool.proofs.any.next_of_any.Goals as goal

pub loop-walk-init : goal.loop-walk-init
loop-walk-init g c = under_start _ _ _ _ _ _ _ c.requires.ready

pub ask_first-requires-clause-size : goal.ask_first-requires-clause-size
ask_first-requires-clause-size g c = c.loop-walk.invariant.there ∙ c.requires.ready.there ∙ sym c.loop-walk.invariant.step.same.size

pub ask_first-requires-clause-fits : goal.ask_first-requires-clause-fits
ask_first-requires-clause-fits g c = c.loop-walk.invariant.fits

-- ---- no list has a document more, or a list refused

pub returns-in-Ok-None : goal.returns-in-Ok-None
returns-in-Ok-None g c =
    let e = c.ask_first.ensures in
    walk_none c.loop-walk.invariant _ (stepped e.call) e.size
    (any_reads c.requires.none c.requires.some c.loop-walk-test.true c.ask_first.new.places.items _ _ e.pages) c.in-Ok-None.ensures.call.fits
    (any_none c.requires.none c.requires.some c.loop-walk-test.true c.ask_first.new.places.items c.ask_first.new.there.items (rw c.in-Ok-None.field-0-is at c.in-Ok-None.ensures.answer))
    (first_none c.requires.some c.loop-walk.invariant.most e.call.same (rw c.in-Ok-None.field-0-is at c.in-Ok-None.ensures.shows))

pub returns-in-Err : goal.returns-in-Err
returns-in-Err g c =
    let e = c.in-Err.ensures in
    walk_err c.loop-walk.invariant _ (stepped e.call) e.size
    (any_reads c.requires.none c.requires.some c.loop-walk-test.true c.ask_first.new.places.items _ _ e.pages) _ e.call.part (λ is. e.call.memory (ap Err is))
    c.loop-walk.invariant.step.faults e.call.cause
    (any_err c.requires.none c.requires.some c.loop-walk-test.true c.ask_first.new.places.items c.ask_first.new.there.items _ e.answer)

-- ---- the first document of all lists satisfies the query, or not

pub returns-then-holds : goal.returns-then-holds
returns-then-holds g c =
    let e = c.in-Ok-Some.ensures in
    let range = (rw c.in-Ok-Some.field-0-is at e.range) c.requires.ready.on.0 c.args.asks.now.all (on_still _ _ _ _ c.loop-walk.invariant.step.same c.requires.ready.on.1) in
    walk_hit c.loop-walk.invariant _ (stepped e.call) e.size
    (any_reads c.requires.none c.requires.some c.loop-walk-test.true c.ask_first.new.places.items _ _ e.pages) e.call.fits (omega (arith, range.0)) range.1
    (any_decides c.requires.none c.requires.some c.loop-walk-test.true c.ask_first.new.places.items c.ask_first.new.there.items _ _
    (rw c.in-Ok-Some.field-0-is at e.answer) (λ doc t. c.holds.ensures.satisfied doc (rw (← c.deref.ensures.value) at t)))
    (first_next c.requires.some (omega (arith, range.0)) e.call.same (e.size ∙ c.loop-walk.invariant.there ∙ c.requires.ready.there ∙ sym c.loop-walk.invariant.step.same.size)
    (rw c.in-Ok-Some.field-0-is at e.shows) (rw c.deref.ensures.value at c.holds.ensures.value)) c.if-holds.true

pub loop-walk-smaller : goal.loop-walk-smaller
loop-walk-smaller g c =
    let range = (rw c.in-Ok-Some.field-0-is at c.in-Ok-Some.ensures.range) c.requires.ready.on.0 c.args.asks.now.all (on_still _ _ _ _ c.loop-walk.invariant.step.same c.requires.ready.on.1) in
    omega (arith, c.loop-walk-test.true, range.0, range.1)

pub loop-walk-preserved : goal.loop-walk-preserved
loop-walk-preserved g c =
    let e = c.in-Ok-Some.ensures in
    let range = (rw c.in-Ok-Some.field-0-is at e.range) c.requires.ready.on.0 c.args.asks.now.all (on_still _ _ _ _ c.loop-walk.invariant.step.same c.requires.ready.on.1) in
    walk_more c.loop-walk.invariant _ (stepped e.call) e.size
    (any_reads c.requires.none c.requires.some c.loop-walk-test.true c.ask_first.new.places.items _ _ e.pages) e.call.fits (omega (arith, range.0)) range.1
    (any_decides c.requires.none c.requires.some c.loop-walk-test.true c.ask_first.new.places.items c.ask_first.new.there.items _ _
    (rw c.in-Ok-Some.field-0-is at e.answer) (λ doc t. c.holds.ensures.satisfied doc (rw (← c.deref.ensures.value) at t)))
    (first_next c.requires.some (omega (arith, range.0)) e.call.same (e.size ∙ c.loop-walk.invariant.there ∙ c.requires.ready.there ∙ sym c.loop-walk.invariant.step.same.size)
    (rw c.in-Ok-Some.field-0-is at e.shows) (rw c.deref.ensures.value at c.holds.ensures.value)) c.if-holds.false

-- ---- all documents were decided

pub returns : goal.returns
returns g c = walk_end c.loop-walk.invariant c.cursors_are_within.ensures (omega (arith, c.loop-walk-test.false))
