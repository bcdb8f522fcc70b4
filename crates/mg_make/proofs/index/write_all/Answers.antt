use Rattle.std.proofs.Common.{◌∙◌, ◌≤◌, ℕ, List, length, sym, ap, subst}
use Rattle.std.specs.Prelude.{sum}
use Rattle.std.specs.List.{flat_map}
use Rattle.mg_make.specs.Index.{IsInverted}
use Rattle.mg_count.specs.Plans.{Plan}
use Rattle.mg_make.proofs.IndexLaws.{index_stands, lists_of_inverted, of_index, size_is, weights_of_index, zeros}
use Rattle.mg_index.specs.Listing.{HasTermOfNone, TellsTermOfNone}
use Rattle.mg_index.proofs.CallerLemmas.{stops_for, store_stops, store_tells}
use Rattle.mg_make.proofs.WeightSteps.{root_bytes, weights_are}
use Rattle.mg_index.proofs.CallerLemmas.{put_wider, step_more, step_put, step_wider}
use Rattle.mg_make.proofs.index.write_all.Goals as goal

pub returns-in-Err : goal.returns-in-Err
returns-in-Err g c =
    let all = zeros c.args.rest.now.sums.items _ c.requires.zero ∙ ap (λ (p : Plan). length p.pairs) (sym c.plan.view_is) in
    record {
      stand = λ collection is. tt;
      post_bytes = λ collection is. tt;
      skip_count = λ collection is. tt;
      few = tt;
      step = step_wider of_index c.write_lists.ensures.step;
      refused = λ collection. stops_for c.in-Err.refusal (λ rose. rose)
          (λ is.
          lists_of_inverted c.postings_are_lists.ensures c.documents_are_counted.ensures.all c.docs.ensures all
          (subst (λ p. IsInverted p c.args.inverted.now.counts collection c.args.inverted.now.merge (g.S.Store.files c.args.store.now)) (sym c.plan.view_is) is))
          (c.in-Err.ensures.refused collection);
      tells = subst (λ (docs : List ℕ). TellsTermOfNone (HasTermOfNone docs) c.in-Err.refusal) c.docs.ensures c.in-Err.ensures.tells;
    }

pub returns-in-Ok-write_weights_part : goal.returns-in-Ok-write_weights_part
returns-in-Ok-write_weights_part g c =
    let all = zeros c.args.rest.now.sums.items _ c.requires.zero ∙ ap (λ (p : Plan). length p.pairs) (sym c.plan.view_is) in
    let lists = c.in-Ok.ensures in
    let weights = c.in-Ok-write_weights_part.ensures in
    let told = c.write_lists.ensures.step.wrote.told in
    record {
      stand = λ collection is.
          let has =
          lists_of_inverted c.postings_are_lists.ensures c.documents_are_counted.ensures.all c.docs.ensures all
          (subst (λ p. IsInverted p c.args.inverted.now.counts collection c.args.inverted.now.merge (g.S.Store.files c.args.store.now)) (sym c.plan.view_is) is) in
          let bytes =
          weights.bytes (told ∙ is.told) ∙ ap (λ sums. flat_map root_bytes sums) c.deref.ensures.value
          ∙ weights_are c.squares_weigh.ensures collection c.write_lists.new.sums.items (lists.sums collection has) in
          index_stands c.args.base.now collection _ _ (lists.stand collection has) c.write_weights_part.ensures.step.wrote bytes
          (weights.first (told ∙ is.told)) (weights.second (told ∙ is.told));
      post_bytes = λ collection is.
          let has =
          lists_of_inverted c.postings_are_lists.ensures c.documents_are_counted.ensures.all c.docs.ensures all
          (subst (λ p. IsInverted p c.args.inverted.now.counts collection c.args.inverted.now.merge (g.S.Store.files c.args.store.now)) (sym c.plan.view_is) is) in
          lists.post_bytes collection has ∙ size_is c.lists_are_whole.ensures.lists c.lists_are_whole.ensures.size collection;
      skip_count = λ collection is.
          let has =
          lists_of_inverted c.postings_are_lists.ensures c.documents_are_counted.ensures.all c.docs.ensures all
          (subst (λ p. IsInverted p c.args.inverted.now.counts collection c.args.inverted.now.merge (g.S.Store.files c.args.store.now)) (sym c.plan.view_is) is) in
          lists.skip_count collection has;
      few = subst (λ (docs : List ℕ). c.in-Ok.sizes.skip_count ≤ sum docs) c.docs.ensures lists.few;
      step = step_more (step_wider of_index c.write_lists.ensures.step) (step_put (put_wider weights_of_index c.write_weights_part.ensures.step));
      refused = tt;
      tells = tt;
    }

pub returns-in-Err-write_weights_part : goal.returns-in-Err-write_weights_part
returns-in-Err-write_weights_part g c = record {
  stand = λ collection is. tt;
  post_bytes = λ collection is. tt;
  skip_count = λ collection is. tt;
  few = tt;
  step = step_more (step_wider of_index c.write_lists.ensures.step) (step_put (put_wider weights_of_index c.write_weights_part.ensures.step));
  refused = λ collection. store_stops _ c.in-Err-write_weights_part.refusal _ c.write_lists.ensures.step.later c.in-Err-write_weights_part.ensures.step.cause c.of_store.ensures;
  tells = store_tells _ c.in-Err-write_weights_part.refusal _ c.of_store.ensures;
}
