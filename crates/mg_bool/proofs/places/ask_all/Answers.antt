use Rattle.std.proofs.Common.{arith, ◌<◌, ◌+◌, List, [], length, get_or, refl, sym, ◌∙◌, subst}
use Rattle.std.specs.Prelude.{slice_index_or, slice_set, None, sum_by}
use Rattle.std.proofs.lemmas.List.{length-set}
use Rattle.mg_post.specs.TermLists.{PagesWithin}
use Rattle.mg_bool.specs.Places.{Asking, Place, pages_read, place_bound}
use Rattle.mg_bool.proofs.AskLaws.{asking_start, asking_next, asking_end, places_bound, asked_pages, err_answer, found_is, asks_one}
use Rattle.mg_bool.proofs.CallLaws.{called, refused, stepped, stepped_none, stepped_on}
use Rattle.mg_bool.proofs.ShownLaws.{AskingShown, asking_shown_next, asking_shown_start}
use Rattle.mg_bool.proofs.places.ask_all.Goals as goal

pub loop-i-init : goal.loop-i-init
loop-i-init g c = record {
  step = stepped_none c.args.places.now.items _ _ _;
  there = refl;
  fits = c.requires.fits;
  asking = λ base collection asked ts a. asking_start base collection asked ts c.args.doc _ c.args.places.now.items c.args.there.now.items _ a;
  shown = asking_shown_start;
}

pub loop-i-preserved : goal.loop-i-preserved
loop-i-preserved g c = record {
  step = stepped_on c.loop-i.invariant.step (stepped c.ask_at.ensures.call);
  there = length-set c.loop-i.there.items c.loop-i.i c.is_at.result ∙ c.loop-i.invariant.there;
  fits = c.in-Ok.ensures.call.fits;
  asking = λ base collection asked ts asks.
      let a = c.loop-i.invariant.asking base collection asked ts asks in
      let lt : c.loop-i.i < length ts = omega (arith, a.places_for.size, c.loop-i.invariant.step.same.size, c.loop-i-test.true, c.len-i-end.ensures) in
      let one = asks_one base collection asked ts c.args.doc c.loop-i.i _ _ c.loop-i.places.items c.args.places.now.items c.loop-i.invariant.step.files asks a.places_for lt in
      let answer = c.in-Ok.ensures.answer base collection asked (get_or ts c.loop-i.i []) one in
      let step = c.ask_at.ensures.pages base collection asked (get_or ts c.loop-i.i []) one in
      let next = asking_next base collection asked ts c.args.doc c.loop-i.i _ _ _ (slice_index_or c.ask_at.new.places.items c.loop-i.i None) c.is_at.result _ _
      (g.S.Store.reads c.ask_at.new.store) a lt (omega (
        arith,
        c.loop-i.invariant.there,
        c.requires.size,
        c.loop-i.invariant.step.same.size,
        a.places_for.size,
        lt,
      )) answer.place
      (found_is collection (get_or ts c.loop-i.i []) c.args.doc c.in-Ok.found c.is_at.result c.requires.some asks.within answer.found_is c.is_at.ensures) step.post in
      subst (λ (ps : List Place). Asking base collection asked ts c.args.doc (c.loop-i.i + 1) c.args.places.now.items ps
      (slice_set c.loop-i.there.items c.loop-i.i c.is_at.result) (g.S.Store.reads c.args.store.now) (g.S.Store.reads c.ask_at.new.store))
      (sym c.ask_at.ensures.places) next;
  shown = λ stands.
      let lt : c.loop-i.i < length c.loop-i.places.items = omega (arith, c.loop-i.invariant.step.same.size, c.loop-i-test.true, c.len-i-end.ensures) in
      let next = asking_shown_next (slice_index_or c.ask_at.new.places.items c.loop-i.i None) c.in-Ok.found c.is_at.result lt
      (omega (arith, c.loop-i.invariant.there, c.requires.size, c.loop-i.invariant.step.same.size, lt)) c.loop-i.invariant.step.same c.loop-i.invariant.step.files c.ask_at.ensures.call.files
      (c.loop-i.invariant.shown stands) c.in-Ok.ensures.shows c.is_at.ensures in
      subst (λ (ps : List Place). AskingShown c.args.places.now.items ps (g.S.Store.files c.args.store.now) (g.S.Store.files c.ask_at.new.store) c.args.doc (c.loop-i.i + 1)
      (slice_set c.loop-i.there.items c.loop-i.i c.is_at.result)) (sym c.ask_at.ensures.places) next;
}

pub returns-clause-answer : goal.returns-clause-answer
returns-clause-answer g c = λ base collection asked ts asks.
    let a = c.loop-i.invariant.asking base collection asked ts asks in
    asking_end base collection asked ts c.args.doc c.loop-i.i _ _ _ _ _ a
    (omega (arith, a.places_for.size, c.loop-i.invariant.step.same.size, c.loop-i-test.false, c.len-i-end.ensures))
    (omega (arith, c.loop-i.invariant.there, c.requires.size, c.loop-i.invariant.step.same.size, a.places_for.size))

pub returns-clause-pages : goal.returns-clause-pages
returns-clause-pages g c = λ base collection asked ts asks.
    let a = c.loop-i.invariant.asking base collection asked ts asks in
    record { within = places_bound base collection asked ts c.args.doc _ c.cursors_are_within.ensures a.places_for; post = a.post }

pub returns-in-Err-clause-answer : goal.returns-in-Err-clause-answer
returns-in-Err-clause-answer g c = λ base collection asked ts asks.
    let a = c.loop-i.invariant.asking base collection asked ts asks in
    let lt : c.loop-i.i < length ts = omega (arith, a.places_for.size, c.loop-i.invariant.step.same.size, c.loop-i-test.true, c.len-i-end.ensures) in
    let one = asks_one base collection asked ts c.args.doc c.loop-i.i _ _ c.loop-i.places.items c.args.places.now.items c.loop-i.invariant.step.files asks a.places_for lt in
    err_answer _ _ _ (c.in-Err.ensures.answer base collection asked (get_or ts c.loop-i.i []) one)

pub returns-in-Err-clause-pages : goal.returns-in-Err-clause-pages
returns-in-Err-clause-pages g c = λ base collection asked ts asks.
    let a = c.loop-i.invariant.asking base collection asked ts asks in
    let lt : c.loop-i.i < length ts = omega (arith, a.places_for.size, c.loop-i.invariant.step.same.size, c.loop-i-test.true, c.len-i-end.ensures) in
    let one = asks_one base collection asked ts c.args.doc c.loop-i.i _ _ c.loop-i.places.items c.args.places.now.items c.loop-i.invariant.step.files asks a.places_for lt in
    let step = c.ask_at.ensures.pages base collection asked (get_or ts c.loop-i.i []) one in
    subst (λ (ps : List Place). PagesWithin (sum_by (place_bound collection asked) ts) (pages_read c.args.places.now.items) (pages_read ps)
    (g.S.Store.reads c.args.store.now) (g.S.Store.reads c.ask_at.new.store)) (sym c.ask_at.ensures.places)
    (asked_pages base collection asked ts c.args.doc c.loop-i.i c.args.places.now.items c.loop-i.places.items
    (slice_index_or c.ask_at.new.places.items c.loop-i.i None) (g.S.Store.reads c.args.store.now) (g.S.Store.reads c.loop-i.store)
    (g.S.Store.reads c.ask_at.new.store) c.cursors_are_within.ensures a.places_for lt a.post step)

pub returns-clause-shows : goal.returns-clause-shows
returns-clause-shows g c = λ stands.
    let a = c.loop-i.invariant.shown stands in
    (λ k lt. a.each k (omega (arith, lt, c.loop-i.invariant.step.same.size, c.loop-i-test.false, c.len-i-end.ensures)), a.stands)

pub returns-in-Err-clause-shows : goal.returns-in-Err-clause-shows
returns-in-Err-clause-shows g c = λ stands. tt

pub returns-clause-call : goal.returns-clause-call
returns-clause-call g c = called tt c.loop-i.invariant.fits c.loop-i.invariant.step

pub returns-in-Err-clause-call : goal.returns-in-Err-clause-call
returns-in-Err-clause-call g c = refused c.in-Err.refusal c.loop-i.invariant.step c.in-Err.ensures.call
