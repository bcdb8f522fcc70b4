use Rattle.std.proofs.Common.{arith, ◌∙◌, [], length, refl, sym, ap, subst, is_some}
use Rattle.std.proofs.lemmas.List.Sums.{sum_by-take-le}
use Rattle.mg_dev.specs.declared.part.Part.TheVariants.{Post, Skip}
use Rattle.mg_dev.specs.Names.{full_name}
use Rattle.mg_defs.specs.Lists.{inverted}
use Rattle.mg_lex.specs.Terms.{terms_of}
use Rattle.mg_lex.specs.Writing.{TookTerms}
use Rattle.mg_post.specs.Writing.{Took}
use Rattle.mg_index.specs.Listing.{ListsStand}
use Rattle.mg_index.proofs.Causes.{rose_behind}
use Rattle.mg_index.proofs.IndexEnds.{ended}
use Rattle.mg_index.proofs.ListFrames.{list_of_read, read_tells, store_stops, store_tells}
use Rattle.mg_index.proofs.ListSteps.{took_between}
use Rattle.mg_index.proofs.StepLaws.{step_for, step_look, step_more, step_put}
use Rattle.mg_index.proofs.lists.write_index.Goals as goal

pub returns-in-Err : goal.returns-in-Err
returns-in-Err g c = record {
  stand = λ collection has. tt;
  sums = λ collection has. tt;
  post_bytes = λ collection has. tt;
  skip_count = λ collection has. tt;
  few = tt;
  step = c.write_terms.ensures.step;
  refused = c.in-Err.ensures.refused;
  tells = c.in-Err.ensures.tells;
}

pub returns-in-Err-expect_end : goal.returns-in-Err-expect_end
returns-in-Err-expect_end g c = record {
  stand = λ collection has. tt;
  sums = λ collection has. tt;
  post_bytes = λ collection has. tt;
  skip_count = λ collection has. tt;
  few = tt;
  step = step_more c.write_terms.ensures.step (step_look c.expect_end.ensures.looked);
  refused = λ collection. list_of_read c.in-Err-expect_end.refusal (rose_behind _ _ _ c.write_terms.ensures.step.later)
      (λ has.
      let e = ended c.args.terms.now.table.now.terms c.args.terms.now.docs.now collection _ _ _ _ _ _ refl (c.in-Ok.ensures.indexed collection has) in
      (e.told, e.merging))
      c.in-Err-expect_end.ensures.refused;
  tells = read_tells _ _ _ c.in-Err-expect_end.refusal c.in-Err-expect_end.ensures.refused;
}

pub finish-requires : goal.finish-requires
finish-requires g c =
    let can = c.in-Ok.ensures.can in
    record {
      lists = (
        can.list.done,
        subst (λ x. Took c.write_terms.new.writer.lists x can.list.done []) (sym c.expect_end.ensures.looked.files)
            (took_between _ _ can.list.done can.list.begun can.between can.list.took),
      );
      lex = (can.before, subst (λ x. TookTerms c.write_terms.new.writer.lex x can.before) (sym c.expect_end.ensures.looked.files) can.took);
      post = can.list.post ∙ ap (λ b. full_name b Post) (sym can.base);
      skip = can.list.skip ∙ ap (λ b. full_name b Skip) (sym can.base);
    }

pub returns-in-Ok-finish : goal.returns-in-Ok-finish
returns-in-Ok-finish g c =
    let terms = c.args.terms.now.table.now.terms in
    let docs = c.args.terms.now.docs.now in
    let can = c.in-Ok.ensures.can in
    let files = c.expect_end.ensures.looked.files in
    let own = can.base ∙ c.write_terms.ensures.step.same.base in
    record {
      stand = λ collection has.
          let e = ended terms docs collection _ _ _ _ _ _ refl (c.in-Ok.ensures.indexed collection has) in
          subst (λ b. ListsStand (g.S.Store.files c.finish.new.store) b collection) own
          (c.in-Ok-finish.ensures.stand collection (ap is_some files ∙ e.told) e.all (subst (λ x. Took c.write_terms.new.writer.lists x (inverted collection) []) (sym files) e.took)
          (subst (λ x. TookTerms c.write_terms.new.writer.lex x (terms_of collection)) (sym files) e.terms));
      sums = λ collection has.
          let e = ended terms docs collection _ _ _ _ _ _ refl (c.in-Ok.ensures.indexed collection has) in
          e.sums_are can.list.each;
      post_bytes = λ collection has.
          let e = ended terms docs collection _ _ _ _ _ _ refl (c.in-Ok.ensures.indexed collection has) in
          c.in-Ok-finish.ensures.post_bytes collection e.all (subst (λ x. Took c.write_terms.new.writer.lists x (inverted collection) []) (sym files) e.took);
      skip_count = λ collection has.
          let e = ended terms docs collection _ _ _ _ _ _ refl (c.in-Ok.ensures.indexed collection has) in
          c.in-Ok-finish.ensures.skip_count collection e.all (subst (λ x. Took c.write_terms.new.writer.lists x (inverted collection) []) (sym files) e.took);
      few = omega (arith, c.in-Ok-finish.ensures.few, can.total, sum_by-take-le (λ x. x) docs (length terms));
      step = step_more (step_more c.write_terms.ensures.step (step_look c.expect_end.ensures.looked)) (step_for own (step_put c.finish.ensures.step));
      refused = tt;
      tells = tt;
    }

pub returns-in-Err-finish : goal.returns-in-Err-finish
returns-in-Err-finish g c =
    let own = c.in-Ok.ensures.can.base ∙ c.write_terms.ensures.step.same.base in
    record {
      stand = λ collection has. tt;
      sums = λ collection has. tt;
      post_bytes = λ collection has. tt;
      skip_count = λ collection has. tt;
      few = tt;
      step = step_more (step_more c.write_terms.ensures.step (step_look c.expect_end.ensures.looked)) (step_for own (step_put c.finish.ensures.step));
      refused = λ collection. store_stops _ c.in-Err-finish.refusal _ (omega (arith, c.write_terms.ensures.step.later, c.expect_end.ensures.looked.later))
          c.in-Err-finish.ensures.step.cause c.of_store.ensures;
      tells = store_tells _ c.in-Err-finish.refusal _ c.of_store.ensures;
    }
