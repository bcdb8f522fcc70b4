use Rattle.std.proofs.Common.{arith, ◌≤◌, ◌<◌, sym, ◌∙◌, subst, refl}
use Rattle.mg_post.specs.TermLists.{ListsStand}
use Rattle.mg_post.proofs.CallerLemmas.{none_at, span_within}
use Rattle.mg_session.proofs.WildListLaws.{caused_then, marking_end, marking_next, marking_start, or_list, post_same, post_then}
use Rattle.mg_session.proofs.wild_answer.mark_postings.Goals as goal

pub loop-last-init : goal.loop-last-init
loop-last-init g c = record {
  most = omega arith;
  room = c.requires.room;
  fits = c.requires.fits;
  all = c.requires.all;
  same = record { post = refl; all = refl };
  current = c.requires.first;
  files = refl;
  reads = post_same _;
  faults = omega arith;
  walk = λ base collection t stand list. marking_start collection t c.args.marked.now;
  list = λ base collection t stand list. list;
  post = λ base collection t stand list. omega arith;
}

pub returns-in-Ok-None-clause-answer : goal.returns-in-Ok-None-clause-answer
returns-in-Ok-None-clause-answer g c = λ base collection t stand list.
    let stand2 = subst (λ fs. ListsStand base fs collection) (sym c.loop-last.invariant.files) stand in
    let f = c.loop-last.invariant.list base collection t stand list in
    let a = (rw c.in-Ok-None.field-0-is at c.in-Ok-None.ensures.answer) c.loop-last.last base collection t stand2 f in
    marking_end collection t c.loop-last.last c.args.marked.now c.loop-last.marked (c.loop-last.invariant.walk base collection t stand list)
    (λ d low le. none_at collection t c.loop-last.last d (sym a.found_is) low le)

pub returns-in-Err-clause-answer : goal.returns-in-Err-clause-answer
returns-in-Err-clause-answer g c = λ base collection t stand list.
    let stand2 = subst (λ fs. ListsStand base fs collection) (sym c.loop-last.invariant.files) stand in
    let f = c.loop-last.invariant.list base collection t stand list in
    or_list c.in-Err.refusal _ _ (c.in-Err.ensures.answer c.loop-last.last base collection t stand2 f)

pub loop-last-preserved : goal.loop-last-preserved
loop-last-preserved g c =
    let inv = c.loop-last.invariant in
    let from = (rw c.in-Ok-Some.field-0-is at c.in-Ok-Some.ensures.sound) in
    let later : c.loop-last.last < c.in-Ok-Some.posting.doc = omega (arith, from.from, inv.current) in
    let within : c.in-Ok-Some.posting.doc ≤ c.args.all = omega (arith, from.within, inv.all) in record {
      most = within;
      room = c.mark.ensures.room ∙ inv.room;
      fits = c.next.ensures.fits;
      all = c.next.ensures.same.all ∙ inv.all;
      same = record { post = c.next.ensures.same.post ∙ inv.same.post; all = c.next.ensures.same.all ∙ inv.same.all };
      current = (rw c.in-Ok-Some.field-0-is at c.in-Ok-Some.ensures.current);
      files = c.next.ensures.files ∙ inv.files;
      reads = post_then inv.reads (record { later = c.next.ensures.later; others = c.next.ensures.others });
      faults = omega (arith, inv.faults, c.next.ensures.cause.later);
      walk = λ base collection t stand list.
          let stand2 = subst (λ fs. ListsStand base fs collection) (sym inv.files) stand in
          let f = inv.list base collection t stand list in
          let a = (rw c.in-Ok-Some.field-0-is at c.in-Ok-Some.ensures.answer) c.loop-last.last base collection t stand2 f in
          marking_next collection t c.loop-last.last c.args.marked.now c.loop-last.marked _ c.in-Ok-Some.posting
          (inv.walk base collection t stand list) (sym a.found_is) later (omega (arith, within, c.requires.all, list.all)) c.mark.ensures.marked;
      list = λ base collection t stand list.
          let stand2 = subst (λ fs. ListsStand base fs collection) (sym inv.files) stand in
          let f = inv.list base collection t stand list in
          let a = (rw c.in-Ok-Some.field-0-is at c.in-Ok-Some.ensures.answer) c.loop-last.last base collection t stand2 f in
          a.reader;
      post = λ base collection t stand list.
          let stand2 = subst (λ fs. ListsStand base fs collection) (sym inv.files) stand in
          let f = inv.list base collection t stand list in
          let more = c.in-Ok-Some.ensures.once c.loop-last.last base collection t stand2 f in
          omega (arith, inv.post base collection t stand list, more);
    }

pub mark-requires-clause-some : goal.mark-requires-clause-some
mark-requires-clause-some g c = let from = (rw c.in-Ok-Some.field-0-is at c.in-Ok-Some.ensures.sound) in omega (arith, from.from)

pub mark-requires-clause-within : goal.mark-requires-clause-within
mark-requires-clause-within g c = let from = (rw c.in-Ok-Some.field-0-is at c.in-Ok-Some.ensures.sound) in omega (arith, from.within, c.loop-last.invariant.all, c.loop-last.invariant.room)

pub returns-clause-answer : goal.returns-clause-answer
returns-clause-answer g c = λ base collection t stand list.
    marking_end collection t c.loop-last.last c.args.marked.now c.loop-last.marked (c.loop-last.invariant.walk base collection t stand list)
    (λ d low le. absurd (omega (arith, c.loop-last-test.false, c.requires.all, list.all, low, le)))

pub returns-in-Ok-None-clause-pages : goal.returns-in-Ok-None-clause-pages
returns-in-Ok-None-clause-pages g c = λ base collection t stand list.
    let stand2 = subst (λ fs. ListsStand base fs collection) (sym c.loop-last.invariant.files) stand in
    let f = c.loop-last.invariant.list base collection t stand list in
    omega (arith, c.loop-last.invariant.post base collection t stand list, c.next.ensures.once_most c.loop-last.last base collection t stand2 f)

pub returns-in-Err-clause-pages : goal.returns-in-Err-clause-pages
returns-in-Err-clause-pages g c = λ base collection t stand list.
    let stand2 = subst (λ fs. ListsStand base fs collection) (sym c.loop-last.invariant.files) stand in
    let f = c.loop-last.invariant.list base collection t stand list in
    omega (arith, c.loop-last.invariant.post base collection t stand list, c.next.ensures.once_most c.loop-last.last base collection t stand2 f)

pub returns-clause-pages : goal.returns-clause-pages
returns-clause-pages g c = λ base collection t stand list.
    let f = c.loop-last.invariant.list base collection t stand list in
    omega (arith, c.loop-last.invariant.post base collection t stand list, span_within collection t c.loop-last.reader.reached f.reached)

pub returns-in-Ok-None-clause-same : goal.returns-in-Ok-None-clause-same
returns-in-Ok-None-clause-same g c =
    let before = c.loop-last.invariant.same in
    let step = c.next.ensures.same in
    record { post = step.post ∙ before.post; all = step.all ∙ before.all }

pub returns-in-Err-clause-same : goal.returns-in-Err-clause-same
returns-in-Err-clause-same g c =
    let before = c.loop-last.invariant.same in
    let step = c.next.ensures.same in
    record { post = step.post ∙ before.post; all = step.all ∙ before.all }

-- ---- what is left of the marks and the store

pub returns-in-Ok-None-clause-stepped : goal.returns-in-Ok-None-clause-stepped
returns-in-Ok-None-clause-stepped g c =
    let before = c.loop-last.invariant in
    let e = c.next.ensures in
    record {
      room = before.room;
      files = e.files ∙ before.files;
      reads = post_then before.reads (record { later = e.later; others = e.others });
      cause = record { later = omega (arith, before.faults, e.cause.later); device = tt };
    }

pub returns-in-Err-clause-stepped : goal.returns-in-Err-clause-stepped
returns-in-Err-clause-stepped g c =
    let before = c.loop-last.invariant in
    let e = c.next.ensures in
    record {
      room = before.room;
      files = e.files ∙ before.files;
      reads = post_then before.reads (record { later = e.later; others = e.others });
      cause = caused_then c.in-Err.refusal before.faults c.in-Err.ensures.cause;
    }

pub returns-clause-stepped : goal.returns-clause-stepped
returns-clause-stepped g c =
    let before = c.loop-last.invariant in
    record { room = before.room; files = before.files; reads = before.reads; cause = record { later = before.faults; device = tt } }
