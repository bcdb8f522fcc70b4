use Rattle.std.proofs.Common.{arith, refl, sym, ap, subst, ◌∙◌, Err}
use Rattle.mg_query.specs.QueryOf.{query_of}
use Rattle.mg_bool.specs.Matches.{IsWithin}
use Rattle.mg_bool.proofs.AskLaws.{err_answer, on_still}
use Rattle.mg_bool.proofs.CallLaws.{stepped, stepped_on}
use Rattle.mg_bool.proofs.ShownLaws.{candidate_next, candidate_none}
use Rattle.mg_bool.proofs.WalkLaws.{asked_decides, asked_err, asked_reads, under_start, walk_end, walk_err, walk_hit, walk_more, walk_none}
use Rattle.mg_bool.proofs.next.next_asked.Goals as goal

pub loop-walk-init : goal.loop-walk-init
loop-walk-init g c = under_start _ _ _ _ _ _ _ c.requires

pub candidate-requires-clause-fits : goal.candidate-requires-clause-fits
candidate-requires-clause-fits g c = c.loop-walk.invariant.fits

pub candidate-requires-clause-on : goal.candidate-requires-clause-on
candidate-requires-clause-on g c = (c.requires.on.0, on_still c.requires.on.0 _ _ _ c.loop-walk.invariant.step.same c.requires.on.1)

pub candidate-requires-clause-lead : goal.candidate-requires-clause-lead
candidate-requires-clause-lead g c = subst (λ n. IsWithin c.args.asks.now.lead n) (sym c.loop-walk.invariant.step.same.size) c.requires.lead

pub ask_all-requires-clause-size : goal.ask_all-requires-clause-size
ask_all-requires-clause-size g c = c.loop-walk.invariant.there ∙ c.requires.there ∙ sym (c.candidate.ensures.call.same.size ∙ c.loop-walk.invariant.step.same.size)

-- ---- no document is left in the list that leads

pub returns-in-Ok-None : goal.returns-in-Ok-None
returns-in-Ok-None g c =
    let e = c.candidate.ensures in
    walk_none c.loop-walk.invariant _ (stepped e.call) refl (e.pages _)
    c.in-Ok-None.ensures.call.fits ((rw c.in-Ok-None.field-0-is at c.in-Ok-None.ensures.answer) _)
    (candidate_none c.loop-walk.invariant.most e.call.same (rw c.in-Ok-None.field-0-is at c.in-Ok-None.ensures.shows))

pub returns-in-Err : goal.returns-in-Err
returns-in-Err g c =
    let e = c.in-Err.ensures in
    walk_err c.loop-walk.invariant _ (stepped e.call) refl (e.pages _) _ e.call.part
    (λ is. e.call.memory (ap Err is)) c.loop-walk.invariant.step.faults e.call.cause
    (λ base collection goes. err_answer _ _ _ (e.answer (query_of c.args.asks.now.query.now) base collection goes))

pub returns-in-Err-ask_all : goal.returns-in-Err-ask_all
returns-in-Err-ask_all g c =
    let e = c.candidate.ensures in
    let a = c.in-Err-ask_all.ensures in
    let found = (rw c.in-Ok-Some.field-0-is at c.in-Ok-Some.ensures.answer) (query_of c.args.asks.now.query.now) in
    let step = stepped_on (stepped e.call) (stepped a.call) in
    walk_err c.loop-walk.invariant _ step a.size (asked_reads e.call.files found (e.pages _) c.ask_all.new.places.items _ a.pages) _ a.call.part
    (λ is. a.call.memory (ap Err is)) (omega (arith, c.loop-walk.invariant.step.faults, e.call.cause.later)) a.call.cause
    (asked_err e.call.files found (e.pages _) c.ask_all.new.places.items c.ask_all.new.there.items _ a.answer)

pub returns-then-holds : goal.returns-then-holds
returns-then-holds g c =
    let e = c.candidate.ensures in
    let a = c.in-Ok.ensures in
    let found = (rw c.in-Ok-Some.field-0-is at c.in-Ok-Some.ensures.answer) (query_of c.args.asks.now.query.now) in
    let step = stepped_on (stepped e.call) (stepped a.call) in
    let range = rw c.in-Ok-Some.field-0-is at c.in-Ok-Some.ensures.range in
    walk_hit c.loop-walk.invariant _ step a.size (asked_reads e.call.files found (e.pages _) c.ask_all.new.places.items _ a.pages) a.call.fits (omega (arith, range.0)) range.1
    (asked_decides e.call.files found (e.pages _) c.ask_all.new.places.items c.ask_all.new.there.items _ a.answer
    (λ doc t. c.holds.ensures.satisfied doc (rw (← c.deref.ensures.value) at t)))
    (candidate_next c.ask_all.new.there.items (omega (arith, range.0)) e.call.same a.call.same e.call.files
    (a.size ∙ c.loop-walk.invariant.there ∙ c.requires.there ∙ sym c.loop-walk.invariant.step.same.size)
    (rw c.in-Ok-Some.field-0-is at c.in-Ok-Some.ensures.shows) a.shows (rw c.deref.ensures.value at c.holds.ensures.value)) c.if-holds.true

pub loop-walk-preserved : goal.loop-walk-preserved
loop-walk-preserved g c =
    let e = c.candidate.ensures in
    let a = c.in-Ok.ensures in
    let found = (rw c.in-Ok-Some.field-0-is at c.in-Ok-Some.ensures.answer) (query_of c.args.asks.now.query.now) in
    let step = stepped_on (stepped e.call) (stepped a.call) in
    let range = rw c.in-Ok-Some.field-0-is at c.in-Ok-Some.ensures.range in
    walk_more c.loop-walk.invariant _ step a.size (asked_reads e.call.files found (e.pages _) c.ask_all.new.places.items _ a.pages) a.call.fits (omega (arith, range.0)) range.1
    (asked_decides e.call.files found (e.pages _) c.ask_all.new.places.items c.ask_all.new.there.items _ a.answer
    (λ doc t. c.holds.ensures.satisfied doc (rw (← c.deref.ensures.value) at t)))
    (candidate_next c.ask_all.new.there.items (omega (arith, range.0)) e.call.same a.call.same e.call.files
    (a.size ∙ c.loop-walk.invariant.there ∙ c.requires.there ∙ sym c.loop-walk.invariant.step.same.size)
    (rw c.in-Ok-Some.field-0-is at c.in-Ok-Some.ensures.shows) a.shows (rw c.deref.ensures.value at c.holds.ensures.value)) c.if-holds.false

-- ---- all documents were decided

pub returns : goal.returns
returns g c = walk_end c.loop-walk.invariant c.cursors_are_within.ensures (omega (arith, c.loop-walk-test.false))
