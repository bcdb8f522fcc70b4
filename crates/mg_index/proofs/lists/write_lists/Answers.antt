use Rattle.std.proofs.Common.{arith, ◌≡◌, length, subst}
use Rattle.std.specs.Prelude.{OnOk}
use Rattle.mg_index.specs.Listing.{ListsStand}
use Rattle.mg_index.proofs.Causes.{rose_behind}
use Rattle.mg_index.proofs.IndexEnds.{can_index_begun, indexed_begun}
use Rattle.mg_index.proofs.ListFrames.{stops_within, store_stops, store_tells}
use Rattle.mg_index.proofs.StepLaws.{step_for, step_more, step_put}
use Rattle.mg_index.proofs.lists.write_lists.Goals as goal

pub returns-in-Err : goal.returns-in-Err
returns-in-Err g c = record {
  stand = λ collection has. tt;
  sums = λ collection has. tt;
  post_bytes = λ collection has. tt;
  skip_count = λ collection has. tt;
  few = tt;
  step = step_put c.start_writers.ensures.step;
  refused = λ collection. store_stops _ c.in-Err.refusal _ (omega arith) c.in-Err.ensures.step.cause c.of_store.ensures;
  tells = store_tells _ c.in-Err.refusal _ c.of_store.ensures;
}

pub write_index-requires-clause-can : goal.write_index-requires-clause-can
write_index-requires-clause-can g c =
    let start = c.in-Ok.ensures.begun in
    can_index_begun c.runs_stay.ensures.left c.args.terms.now.table.now.terms c.args.terms.now.docs.now _ _ _ _ _ _ c.args.base.now c.requires.left.0
    c.requires.left.1 c.requires.base c.start_writers.ensures.step.wrote start.lists start.lex start.post start.skip
    start.base_is (omega (arith, start.all_are, c.len-all.ensures, c.args.sums.now.ok.0)) start.nothing

pub returns : goal.returns
returns g c =
    let terms = c.args.terms.now.table.now.terms in
    let docs = c.args.terms.now.docs.now in
    let start = c.in-Ok.ensures.begun in
    let all : c.in-Ok.writer.lists.all ≡ length c.args.sums.now.items = omega (arith, start.all_are, c.len-all.ensures, c.args.sums.now.ok.0) in
    let wrote = c.start_writers.ensures.step.wrote in
    let e = c.write_index.ensures in
    record {
      stand = λ collection has. subst (λ b. OnOk c.write_index.result (ListsStand (g.S.Store.files c.write_index.new.store) b collection)) c.requires.base
          (e.stand collection (indexed_begun c.runs_stay.ensures.left c.squares_fit.ensures.most terms docs collection _ _ _ _ _ _ c.args.base.now _ all c.requires.base wrote
          start.lists start.lex c.requires.zero has));
      sums = λ collection has. e.sums collection
          (indexed_begun c.runs_stay.ensures.left c.squares_fit.ensures.most terms docs collection _ _ _ _ _ _ c.args.base.now _ all c.requires.base wrote start.lists start.lex c.requires.zero has);
      post_bytes = λ collection has. e.post_bytes collection
          (indexed_begun c.runs_stay.ensures.left c.squares_fit.ensures.most terms docs collection _ _ _ _ _ _ c.args.base.now _ all c.requires.base wrote start.lists start.lex c.requires.zero has);
      skip_count = λ collection has. e.skip_count collection
          (indexed_begun c.runs_stay.ensures.left c.squares_fit.ensures.most terms docs collection _ _ _ _ _ _ c.args.base.now _ all c.requires.base wrote start.lists start.lex c.requires.zero has);
      few = e.few;
      step = step_more (step_put c.start_writers.ensures.step) (step_for c.requires.base e.step);
      refused = stops_within _ _ c.write_index.result (rose_behind _ _ _ c.start_writers.ensures.step.cause.later)
          (λ collection has. indexed_begun c.runs_stay.ensures.left c.squares_fit.ensures.most terms docs collection _ _ _ _ _ _ c.args.base.now _ all c.requires.base wrote start.lists
          start.lex c.requires.zero has)
          e.refused;
      tells = e.tells;
    }
