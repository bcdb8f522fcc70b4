use Rattle.std.proofs.Common.{arith, ◌∙◌, ◌≤◌, ◌+◌, ◌/◌, [], length, refl, sym, subst, ap, is_some}
use Rattle.mg_dev.specs.Causes.{Rose}
use Rattle.mg_defs.specs.Lists.{lists_bits, lists_entries}
use Rattle.mg_defs.specs.PostingLists.{by_terms}
use Rattle.mg_index.specs.Listing.{IsInList}
use Rattle.mg_index.proofs.ListFrames.{list_of_read, read_tells, store_stops, store_tells, wrote_lists}
use Rattle.mg_index.proofs.ListSteps.{at_list_begun, at_list_ended, can_begun, can_ended, names_more, rest_of_list, whole_taken}
use Rattle.mg_index.proofs.StepLaws.{step_begun, step_lists, step_none, step_then}
use Rattle.mg_index.proofs.one_list.write_list.Goals as goal

pub returns-then-docs-eq0 : goal.returns-then-docs-eq0
returns-then-docs-eq0 g c = record {
  can = tt;
  told = λ told done ps more size is. tt;
  post_at = λ told done ps more size is. tt;
  skip_at = λ told done ps more size is. tt;
  listed = tt;
  files = record { post = refl; skip = refl; all = refl };
  step = step_none refl (λ p. refl) (omega arith);
  refused = ((λ e. omega (arith, e)), λ has. omega (arith, has.some, c.if-docs-eq0.true));
  tells = (refl, refl, omega (arith, c.if-docs-eq0.true));
}

-- a list is always begun
pub returns-in-Err : goal.returns-in-Err
returns-in-Err g c = absurd (cc c.in-Err.ensures.sure)

pub take_postings-requires-clause-can : goal.take_postings-requires-clause-can
take_postings-requires-clause-can g c = can_begun c.args.docs _ _ _ _ _ _ c.requires.can c.requires.between (ap (λ s. g.S.Store.files s) c.begin.ensures.store)
    c.begin.ensures.took c.begin.ensures.between c.begin.ensures.same

pub returns-in-Err-take_postings : goal.returns-in-Err-take_postings
returns-in-Err-take_postings g c =
    let files = ap (λ s. g.S.Store.files s) c.begin.ensures.store in
    record {
      can = tt;
      told = λ told done ps more size is. tt;
      post_at = λ told done ps more size is. tt;
      skip_at = λ told done ps more size is. tt;
      listed = tt;
      files = names_more _ _ _ c.begin.ensures.same c.take_postings.ensures.files;
      step = step_begun g.S.Store.files g.S.Store.reads g.S.Store.faults c.begin.ensures.store c.take_postings.ensures.step;
      refused = list_of_read c.in-Err-take_postings.refusal (subst (λ s. Rose (g.S.Store.faults s) (g.S.Store.faults c.take_postings.new.store)) c.begin.ensures.store)
          (rest_of_list c.args.number c.args.docs _ _ _ _ _ _ files c.begin.ensures.took c.begin.ensures.between c.begin.ensures.same)
          c.in-Err-take_postings.ensures.refused;
      tells = read_tells _ _ _ c.in-Err-take_postings.refusal c.in-Err-take_postings.ensures.refused;
    }

pub end_list-requires-clause-took : goal.end_list-requires-clause-took
end_list-requires-clause-took g c =
    let can = c.in-Ok-take_postings.ensures.can in
    (can.done, can.begun, can.took)

pub returns-in-Ok-end_list : goal.returns-in-Ok-end_list
returns-in-Ok-end_list g c =
    let can = c.in-Ok-take_postings.ensures.can in
    let files = ap (λ s. g.S.Store.files s) c.begin.ensures.store in
    let e = c.end_list.ensures.step in
    let wrote = wrote_lists c.take_postings.new.merge.base _ _ _ _ can.post can.skip e.told e.others in
    let names = names_more _ _ _ c.begin.ensures.same c.take_postings.ensures.files in
    record {
      can = can_ended c.runs_stay.ensures.left _ _ _ _ _ _ _ can wrote c.in-Ok-end_list.ensures.took c.in-Ok-end_list.ensures.between e.same;
      told = λ told done ps more size is.
          let begun = at_list_begun c.args.number c.args.docs _ _ _ _ _ _ done ps more is files c.begin.ensures.took c.begin.ensures.between c.begin.ensures.same in
          let enough : c.args.docs ≤ length ps = omega (arith, size) in
          let taken = c.in-Ok-take_postings.ensures.told (ap is_some files ∙ told) done [] ps (by_terms (c.args.number + 1) more) enough begun in
          let whole =
          whole_taken
          (λ qs rest. IsInList c.args.number c.take_postings.new.merge c.take_postings.new.lists c.take_postings.new.sums.items
          (g.S.Store.files c.take_postings.new.store) done qs rest (by_terms (c.args.number + 1) more))
          c.args.docs ps size taken in
          at_list_ended c.runs_stay.ensures.left c.args.number _ _ _ _ _ _ c.args.lists.now.all done ps more whole
          (sym (e.same.all ∙ names.all)) is.rise.1 is.fit wrote
          c.in-Ok-end_list.ensures.took;
      post_at = λ told done ps more size is.
          let begun = at_list_begun c.args.number c.args.docs _ _ _ _ _ _ done ps more is files c.begin.ensures.took c.begin.ensures.between c.begin.ensures.same in
          let enough : c.args.docs ≤ length ps = omega (arith, size) in
          let taken = c.in-Ok-take_postings.ensures.told (ap is_some files ∙ told) done [] ps (by_terms (c.args.number + 1) more) enough begun in
          (c.in-Ok-end_list.ensures.answer done _ taken.took).0 ∙ ap (λ all. length (lists_bits all done) / 8) names.all;
      skip_at = λ told done ps more size is.
          let begun = at_list_begun c.args.number c.args.docs _ _ _ _ _ _ done ps more is files c.begin.ensures.took c.begin.ensures.between c.begin.ensures.same in
          let enough : c.args.docs ≤ length ps = omega (arith, size) in
          let taken = c.in-Ok-take_postings.ensures.told (ap is_some files ∙ told) done [] ps (by_terms (c.args.number + 1) more) enough begun in
          (c.in-Ok-end_list.ensures.answer done _ taken.took).1 ∙ ap (λ all. length (lists_entries all done)) names.all;
      listed = record {
        pushed = c.in-Ok-end_list.ensures.between.pushed;
        total = omega (arith, c.in-Ok-end_list.ensures.between.total, c.in-Ok-take_postings.ensures.pushed.total, c.begin.ensures.between.total);
      };
      files = names_more _ _ _ names e.same;
      step = step_then (step_begun g.S.Store.files g.S.Store.reads g.S.Store.faults c.begin.ensures.store c.take_postings.ensures.step)
          (step_lists can.post can.skip e.told e.others e.reads e.cause.later);
      refused = tt;
      tells = tt;
    }

pub returns-in-Err-end_list : goal.returns-in-Err-end_list
returns-in-Err-end_list g c =
    let can = c.in-Ok-take_postings.ensures.can in
    let e = c.end_list.ensures.step in
    let begun = step_begun g.S.Store.files g.S.Store.reads g.S.Store.faults c.begin.ensures.store c.take_postings.ensures.step in
    record {
      can = tt;
      told = λ told done ps more size is. tt;
      post_at = λ told done ps more size is. tt;
      skip_at = λ told done ps more size is. tt;
      listed = tt;
      files = names_more _ _ _ (names_more _ _ _ c.begin.ensures.same c.take_postings.ensures.files) e.same;
      step = step_then begun (step_lists can.post can.skip e.told e.others e.reads e.cause.later);
      refused = store_stops _ c.in-Err-end_list.refusal _ begun.later c.in-Err-end_list.ensures.step.cause c.of_store-in-Err-end_list.ensures;
      tells = store_tells _ c.in-Err-end_list.refusal _ c.of_store-in-Err-end_list.ensures;
    }
