use Rattle.std.proofs.Common.{arith, ◌∙◌, ◌≡◌, ◌++◌, sym, ap, refl}
use Rattle.std.proofs.lemmas.Result.{err_from_is_err_and}
use Rattle.mg_dev.specs.declared.part.Part.TheVariants.{Post, Skip}
use Rattle.mg_dev.specs.Names.{full_name}
use Rattle.mg_defs.specs.declared.TermPosting.{TermPosting}
use Rattle.mg_defs.specs.PostingLists.{term_list}
use Rattle.mg_post.specs.Writing.{posting_of}
use Rattle.mg_index.specs.Listing.{IsInList}
use Rattle.mg_index.proofs.ListFrames.{read_for, store_refuses, wrote_lists}
use Rattle.mg_index.proofs.ListSteps.{can_more, in_list_more, next_of_rest}
use Rattle.mg_index.proofs.StepLaws.{step_lists, step_look, step_more}
use Rattle.mg_index.proofs.TakeSteps.{one_taken, take_err}
use Rattle.mg_index.proofs.one_list.take_posting.Goals as goal

pub next_posting-requires-clause-last : goal.next_posting-requires-clause-last
next_posting-requires-clause-last g c = omega (arith, c.requires.last, c.requires.can.within, c.requires.can.took.all)

pub returns-in_err-posting-clause-step : goal.returns-in_err-posting-clause-step
returns-in_err-posting-clause-step g c =
    take_err c.from_residual.result c.in_err-posting.field-0.0 (err_from_is_err_and c.from_residual.result c.from_residual.ensures.1)
    (read_for c.in_err-posting.field-0.0 (λ rose. rose)
    (next_of_rest c.args.number c.args.last c.args.merge.now c.args.lists.now c.args.sums.now.items (g.S.Store.files c.args.store.now) _ c.requires.last
    (omega (arith, c.len-all.ensures, c.args.sums.now.ok.0, c.requires.can.each)))
    c.in_err-posting.ensures.refused)
    (record { post = refl; skip = refl; all = refl }) (step_look c.next_posting.ensures.looked)

pub returns-in-Ok-clause-step : goal.returns-in-Ok-clause-step
returns-in-Ok-clause-step g c =
    let can = c.requires.can in
    let next = c.next_posting.ensures in
    let e = c.write_posting.ensures.step in
    let took = c.in-Ok.ensures in
    let base = next.looked.same.base in
    let wrote =
    wrote_lists c.next_posting.new.merge.base _ _ _ _ (can.post ∙ ap (λ b. full_name b Post) (sym base)) (can.skip ∙ ap (λ b. full_name b Skip) (sym base)) e.told e.others in
    record {
      can = can_more _ c.runs_stay.ensures.left can next.looked.same next.looked.files c.in_ok-posting.ensures.left wrote took.took took.step.same took.each
          (omega (arith, took.pushed.last, c.in_ok-posting.ensures.follows.within, c.len-all.ensures, c.args.sums.now.ok.0, can.each));
      told = λ told done ps left later enough is.
          one_taken
          (λ qs rest. IsInList c.args.number c.args.merge.now c.args.lists.now c.args.sums.now.items (g.S.Store.files c.args.store.now) done qs rest later)
          (λ qs rest. IsInList c.args.number c.next_posting.new.merge c.write_posting.new.lists c.write_posting.new.sums.items (g.S.Store.files c.write_posting.new.store) done qs rest later)
          ps left enough
          (λ p rest h.
          let first : TermPosting = record { term = c.args.number; doc = p.doc; count = p.freq } in
          let read : c.in_ok-posting.posting ≡ first = c.in_ok-posting.ensures.told told first (term_list c.args.number rest ++ later) h.merging in
          in_list_more c.runs_stay.ensures.left h next.looked.files (ap (λ (x : TermPosting). posting_of x.doc x.count) read)
          c.in_ok-posting.ensures.left wrote took.took took.summed took.step.same.all took.pushed.last)
          is;
      pushed = record { docs = took.pushed.docs; pushed = took.pushed.pushed; total = took.pushed.total };
      files = took.step.same;
      step = step_more (step_look next.looked) (step_lists can.post can.skip e.told e.others e.reads e.cause.later);
      refused = tt;
    }

pub returns-in-Err-clause-step : goal.returns-in-Err-clause-step
returns-in-Err-clause-step g c =
    let e = c.write_posting.ensures.step in
    let step = step_more (step_look c.next_posting.ensures.looked) (step_lists c.requires.can.post c.requires.can.skip e.told e.others e.reads e.cause.later) in
    record {
      can = tt;
      told = λ told done ps left later enough is. tt;
      pushed = tt;
      files = e.same;
      step = step;
      refused = store_refuses _ c.in-Err.refusal _ c.next_posting.ensures.looked.later c.in-Err.ensures.step.cause c.of_store.ensures;
    }
