use Rattle.std.proofs.Common.{arith, ◌<◌, ◌+◌, List, [], length, get_or, refl, sym, ◌∙◌, subst}
use Rattle.std.specs.Prelude.{slice_index_or, None, sum_by}
use Rattle.mg_post.specs.TermLists.{PagesWithin}
use Rattle.mg_bool.specs.Places.{Place, first_from, pages_read, place_bound}
use Rattle.mg_bool.proofs.AskLaws.{on_still, places_bound, asked_pages, err_answer, asks_one}
use Rattle.mg_bool.proofs.FirstLaws.{AskingFirst, asking_first_start, asking_first_next, asking_first_end}
use Rattle.mg_bool.proofs.CallLaws.{called, refused, stepped, stepped_none, stepped_on}
use Rattle.mg_bool.proofs.ShownLaws.{AskingFirstShown, asking_first_shown_end, asking_first_shown_next, asking_first_shown_start}
use Rattle.mg_bool.proofs.places.ask_first.Goals as goal

pub loop-i-init : goal.loop-i-init
loop-i-init g c = record {
  step = stepped_none c.args.places.now.items _ _ _;
  there = refl;
  fits = c.requires.fits;
  range = λ base all on. tt;
  asking = λ base collection asked ts a. asking_first_start base collection asked ts c.args.from c.args.places.now.items c.args.there.now.items _ a.places_for;
  shown = asking_first_shown_start;
}

pub loop-i-preserved : goal.loop-i-preserved
loop-i-preserved g c = record {
  step = stepped_on c.loop-i.invariant.step (stepped c.ask_at.ensures.call);
  there = c.take_found-first.ensures.size ∙ c.loop-i.invariant.there;
  fits = c.in-Ok.ensures.call.fits;
  range = λ base all on.
      let now_on = on_still base all c.args.places.now.items c.loop-i.places.items c.loop-i.invariant.step.same on in
      c.take_found-first.ensures.range c.args.from all (c.in-Ok.ensures.range base all (now_on.each c.loop-i.i)) (c.loop-i.invariant.range base all on);
  asking = λ base collection asked ts asks.
      let a = c.loop-i.invariant.asking base collection asked ts asks in
      let lt : c.loop-i.i < length ts = omega (arith, a.places_for.size, c.loop-i.invariant.step.same.size, c.loop-i-test.true, c.len-i-end.ensures) in
      let one = asks_one base collection asked ts c.args.from c.loop-i.i _ _ c.loop-i.places.items c.args.places.now.items c.loop-i.invariant.step.files asks a.places_for lt in
      let answer = c.in-Ok.ensures.answer base collection asked (get_or ts c.loop-i.i []) one in
      let step = c.ask_at.ensures.pages base collection asked (get_or ts c.loop-i.i []) one in
      let taken = c.take_found-first.ensures.first (λ k. first_from collection c.args.from (get_or ts k [])) (sym answer.found_is) a.so_far in
      let next = asking_first_next base collection asked ts c.args.from c.loop-i.i _ c.take_found-first.result c.args.places.now.items c.loop-i.places.items _
      c.take_found-first.new.there.items (slice_index_or c.ask_at.new.places.items c.loop-i.i None) _ _ (g.S.Store.reads c.ask_at.new.store) a lt
      answer.place taken step.post in
      subst (λ (ps : List Place). AskingFirst base collection asked ts c.args.from (c.loop-i.i + 1) c.take_found-first.result c.args.places.now.items ps
      c.take_found-first.new.there.items (g.S.Store.reads c.args.store.now) (g.S.Store.reads c.ask_at.new.store)) (sym c.ask_at.ensures.places) next;
  shown = λ stands.
      let lt : c.loop-i.i < length c.loop-i.places.items = omega (arith, c.loop-i.invariant.step.same.size, c.loop-i-test.true, c.len-i-end.ensures) in
      let next = asking_first_shown_next (slice_index_or c.ask_at.new.places.items c.loop-i.i None) c.in-Ok.found c.take_found-first.result c.take_found-first.new.there.items lt
      c.loop-i.invariant.step.same c.loop-i.invariant.step.files c.ask_at.ensures.call.files (c.loop-i.invariant.shown stands) c.in-Ok.ensures.shows c.take_found-first.ensures.first in
      subst (λ (ps : List Place). AskingFirstShown c.args.places.now.items ps (g.S.Store.files c.args.store.now) (g.S.Store.files c.ask_at.new.store) c.args.from (c.loop-i.i + 1)
      c.take_found-first.result c.take_found-first.new.there.items) (sym c.ask_at.ensures.places) next;
}

pub returns-clause-answer : goal.returns-clause-answer
returns-clause-answer g c = λ base collection asked ts asks.
    let a = c.loop-i.invariant.asking base collection asked ts asks in
    asking_first_end base collection asked ts c.args.from c.loop-i.i _ _ _ _ _ _ c.requires.some asks.within a
    (omega (arith, a.places_for.size, c.loop-i.invariant.step.same.size, c.loop-i-test.false, c.len-i-end.ensures, c.loop-i.auto))
    (omega (arith, c.loop-i.invariant.there, c.requires.size, c.loop-i.invariant.step.same.size, a.places_for.size))

pub returns-clause-pages : goal.returns-clause-pages
returns-clause-pages g c = λ base collection asked ts asks.
    let a = c.loop-i.invariant.asking base collection asked ts asks in
    record { within = places_bound base collection asked ts c.args.from _ c.cursors_are_within.ensures a.places_for; post = a.post }

pub returns-in-Err-clause-answer : goal.returns-in-Err-clause-answer
returns-in-Err-clause-answer g c = λ base collection asked ts asks.
    let a = c.loop-i.invariant.asking base collection asked ts asks in
    let lt : c.loop-i.i < length ts = omega (arith, a.places_for.size, c.loop-i.invariant.step.same.size, c.loop-i-test.true, c.len-i-end.ensures) in
    let one = asks_one base collection asked ts c.args.from c.loop-i.i _ _ c.loop-i.places.items c.args.places.now.items c.loop-i.invariant.step.files asks a.places_for lt in
    err_answer _ _ _ (c.in-Err.ensures.answer base collection asked (get_or ts c.loop-i.i []) one)

pub returns-in-Err-clause-pages : goal.returns-in-Err-clause-pages
returns-in-Err-clause-pages g c = λ base collection asked ts asks.
    let a = c.loop-i.invariant.asking base collection asked ts asks in
    let lt : c.loop-i.i < length ts = omega (arith, a.places_for.size, c.loop-i.invariant.step.same.size, c.loop-i-test.true, c.len-i-end.ensures) in
    let one = asks_one base collection asked ts c.args.from c.loop-i.i _ _ c.loop-i.places.items c.args.places.now.items c.loop-i.invariant.step.files asks a.places_for lt in
    let step = c.ask_at.ensures.pages base collection asked (get_or ts c.loop-i.i []) one in
    subst (λ (ps : List Place). PagesWithin (sum_by (place_bound collection asked) ts) (pages_read c.args.places.now.items) (pages_read ps)
    (g.S.Store.reads c.args.store.now) (g.S.Store.reads c.ask_at.new.store)) (sym c.ask_at.ensures.places)
    (asked_pages base collection asked ts c.args.from c.loop-i.i c.args.places.now.items c.loop-i.places.items
    (slice_index_or c.ask_at.new.places.items c.loop-i.i None) (g.S.Store.reads c.args.store.now) (g.S.Store.reads c.loop-i.store)
    (g.S.Store.reads c.ask_at.new.store) c.cursors_are_within.ensures a.places_for lt a.post step)

pub returns-clause-shows : goal.returns-clause-shows
returns-clause-shows g c = λ stands.
    asking_first_shown_end (omega (arith, c.loop-i.invariant.step.same.size, c.loop-i-test.false, c.len-i-end.ensures, c.loop-i.auto)) (c.loop-i.invariant.shown stands)

pub returns-in-Err-clause-shows : goal.returns-in-Err-clause-shows
returns-in-Err-clause-shows g c = λ stands. tt

pub returns-clause-call : goal.returns-clause-call
returns-clause-call g c = called _ c.loop-i.invariant.fits c.loop-i.invariant.step

pub returns-in-Err-clause-call : goal.returns-in-Err-clause-call
returns-in-Err-clause-call g c = refused c.in-Err.refusal c.loop-i.invariant.step c.in-Err.ensures.call
