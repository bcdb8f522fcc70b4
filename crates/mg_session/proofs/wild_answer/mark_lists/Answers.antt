use Rattle.std.proofs.Common.{arith, ◌+◌, ◌∷◌, [], get_or, sym, ◌∙◌, subst, refl}
use Rattle.std.proofs.lemmas.List.{take_all}
use Rattle.mg_defs.specs.Terms.{dictionary}
use Rattle.mg_post.specs.TermLists.{ListsStand}
use Rattle.mg_session.specs.WildMarks.{AddsLists, terms_at}
use Rattle.mg_session.proofs.WildListLaws.{adds_more, adds_none, caused_then, or_or, post_same, post_then}
use Rattle.mg_session.proofs.WildPageLaws.{pages_cut, pages_next}
use Rattle.mg_session.proofs.WildTextLaws.{terms_next, told_info}
use Rattle.mg_session.proofs.wild_answer.mark_lists.Goals as goal

pub loop-number-init : goal.loop-number-init
loop-number-init g c = record {
  room = c.requires.room;
  over = c.requires.over;
  fits = c.requires.fits;
  files = refl;
  reads = post_same _;
  faults = omega arith;
  added = λ collection sources. adds_none collection c.args.marked.now;
  post = λ collection sources. omega arith;
}

pub info-info-requires : goal.info-info-requires
info-info-requires g c = omega (arith, c.requires.numbers.below c.loop-number.number-index 0 c.loop-number-test.true, c.requires.numbers.told)

pub loop-number-preserved : goal.loop-number-preserved
loop-number-preserved g c =
    let inv = c.loop-number.invariant in
    record {
      room = c.in-Ok.ensures.stepped.room;
      over = c.in-Ok.ensures.over;
      fits = c.in-Ok.ensures.fits;
      files = c.in-Ok.ensures.stepped.files ∙ inv.files;
      reads = post_then inv.reads c.in-Ok.ensures.stepped.reads;
      faults = omega (arith, inv.faults, c.in-Ok.ensures.stepped.cause.later);
      added = λ collection sources.
          let stand = subst (λ fs. ListsStand c.args.lists.now.base.now fs collection) (sym inv.files) sources.lists in
          let told = told_info collection c.args.terms.now (get_or c.args.numbers.now c.loop-number.number-index 0) c.info-info.result sources.terms_are
          sources.infos_are (c.requires.numbers.below c.loop-number.number-index 0 c.loop-number-test.true) c.info-info.ensures.info c.info-info.ensures.number in
          let t = get_or (dictionary collection) (get_or c.args.numbers.now c.loop-number.number-index 0) [] in
          subst (λ ts. AddsLists collection ts c.args.marked.now c.mark_list.new.marked)
          (sym (terms_next collection c.args.numbers.now c.loop-number.number-index (get_or c.args.numbers.now c.loop-number.number-index 0)
          c.loop-number-test.true refl))
          (adds_more collection _ (t ∷ []) c.args.marked.now c.loop-number.marked c.mark_list.new.marked (inv.added collection sources)
          (c.in-Ok.ensures.answer collection t stand told sources.all_is));
      post = λ collection sources.
          let stand = subst (λ fs. ListsStand c.args.lists.now.base.now fs collection) (sym inv.files) sources.lists in
          let n = get_or c.args.numbers.now c.loop-number.number-index 0 in
          let told = told_info collection c.args.terms.now n c.info-info.result sources.terms_are sources.infos_are
          (c.requires.numbers.below c.loop-number.number-index 0 c.loop-number-test.true) c.info-info.ensures.info c.info-info.ensures.number in
          omega (
            arith,
            inv.post collection sources,
            c.in-Ok.ensures.pages collection (get_or (dictionary collection) n []) stand told sources.all_is,
            pages_next collection c.args.numbers.now c.loop-number.number-index n c.loop-number-test.true refl,
          );
    }

pub returns-in-Err : goal.returns-in-Err
returns-in-Err g c = record {
  answer = λ collection sources.
      let inv = c.loop-number.invariant in
      let stand = subst (λ fs. ListsStand c.args.lists.now.base.now fs collection) (sym inv.files) sources.lists in
      let told = told_info collection c.args.terms.now (get_or c.args.numbers.now c.loop-number.number-index 0) c.info-info.result sources.terms_are
      sources.infos_are (c.requires.numbers.below c.loop-number.number-index 0 c.loop-number-test.true) c.info-info.ensures.info c.info-info.ensures.number in
      or_or c.in-Err.refusal _ _ (c.in-Err.ensures.answer collection (get_or (dictionary collection) (get_or c.args.numbers.now c.loop-number.number-index 0) []) stand told sources.all_is);
  pages = λ collection sources.
      let inv = c.loop-number.invariant in
      let stand = subst (λ fs. ListsStand c.args.lists.now.base.now fs collection) (sym inv.files) sources.lists in
      let n = get_or c.args.numbers.now c.loop-number.number-index 0 in
      let told = told_info collection c.args.terms.now n c.info-info.result sources.terms_are sources.infos_are
      (c.requires.numbers.below c.loop-number.number-index 0 c.loop-number-test.true) c.info-info.ensures.info c.info-info.ensures.number in
      omega (
        arith,
        inv.post collection sources,
        c.in-Err.ensures.pages collection (get_or (dictionary collection) n []) stand told sources.all_is,
        pages_next collection c.args.numbers.now c.loop-number.number-index n c.loop-number-test.true refl,
        pages_cut collection c.args.numbers.now (c.loop-number.number-index + 1),
      );
  step =
      let before = c.loop-number.invariant in
      let e = c.in-Err.ensures.stepped in
      record {
        room = e.room;
        files = e.files ∙ before.files;
        reads = post_then before.reads e.reads;
        cause = caused_then c.in-Err.refusal before.faults e.cause;
      };
}

pub returns : goal.returns
returns g c = record {
  answer = λ collection sources.
      let all = take_all c.loop-number.number-index c.args.numbers.now (omega (arith, c.loop-number-test.false)) in
      subst (λ ns. AddsLists collection (terms_at collection ns) c.args.marked.now c.loop-number.marked) all (c.loop-number.invariant.added collection sources);
  pages = λ collection sources. omega (arith, c.loop-number.invariant.post collection sources, pages_cut collection c.args.numbers.now c.loop-number.number-index);
  step =
      let before = c.loop-number.invariant in
      record { room = before.room; files = before.files; reads = before.reads; cause = record { later = before.faults; device = tt } };
}
