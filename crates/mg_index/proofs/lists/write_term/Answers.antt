use Rattle.std.proofs.Common.{arith, ◌∙◌, ◌+◌, ◌<◌, [], length, take, drop, get_or, sym}
use Rattle.mg_defs.specs.Lists.{inverted}
use Rattle.mg_index.proofs.IndexSteps.{above, can_index_more, indexed_more, terms_beside}
use Rattle.mg_index.proofs.ListFrames.{of_lists, stops_for, store_stops, store_tells, tells_for}
use Rattle.mg_index.proofs.StepLaws.{step_lex, step_more, step_wider}
use Rattle.mg_index.proofs.TermSteps.{has_list, info_is, list_next, number_within, size_at}
use Rattle.mg_index.proofs.lists.write_term.Goals as goal

pub returns-in-Err : goal.returns-in-Err
returns-in-Err g c =
    let terms = c.args.terms.now.table.now.terms in
    let docs = c.args.terms.now.docs.now in
    record {
      can = tt;
      indexed = λ collection has. tt;
      all = c.write_list.ensures.files.all;
      step = step_wider of_lists c.write_list.ensures.step;
      refused = λ collection. stops_for c.in-Err.refusal (λ rose. rose)
          (λ has. has_list terms docs collection c.args.number c.docs_of-docs.result _ _ _ _ _ c.requires.number c.docs_of-docs.ensures has)
          c.in-Err.ensures.refused;
      tells = tells_for c.in-Err.refusal
          (λ none. record { number = c.args.number; within = omega (arith, c.requires.number, c.requires.sizes.each); none = sym c.docs_of-docs.ensures ∙ none })
          c.in-Err.ensures.tells;
    }

pub push-requires-clause-took : goal.push-requires-clause-took
push-requires-clause-took g c =
    let can = c.requires.can in
    (can.before, terms_beside c.terms_stay.ensures c.args.merge.now.base c.args.writer.now.lex _ _ can.before can.base c.write_list.ensures.step.wrote can.took)

pub push-requires-clause-above : goal.push-requires-clause-above
push-requires-clause-above g c =
    above c.args.terms.now.table.now.terms c.args.number c.args.writer.now.lex.front.count c.args.writer.now.lex.front.last c.term.result.now c.requires.rising
    c.requires.can.count c.requires.can.last c.term.ensures.term

pub returns-in-Ok-push : goal.returns-in-Ok-push
returns-in-Ok-push g c =
    let terms = c.args.terms.now.table.now.terms in
    let docs = c.args.terms.now.docs.now in
    let n = c.args.number in
    let lt = c.requires.number in
    let written = c.in-Ok.ensures in
    let e = c.push.ensures in
    let told = c.in-Ok-push.ensures in
    let below : n < length docs = omega (arith, lt, c.requires.sizes.each) in
    record {
      can =
          can_index_more c.runs_stay.ensures.left c.lists_stay.ensures c.terms_stay.ensures c.requires.can written.can written.listed written.step.same written.step.wrote below
          c.docs_of-docs.ensures c.term.ensures.term told.took told.count told.last e.base e.told e.others;
      indexed = λ collection has.
          let next = list_next terms docs collection n _ _ _ _ _ lt has in
          let size = size_at docs collection n has.of.docs_are (number_within terms docs _ n collection has.of lt) ∙ sym c.docs_of-docs.ensures in
          let done = take n (inverted collection) in
          let ps = get_or (inverted collection) n [] in
          let rest = drop (n + 1) (inverted collection) in
          let list = written.told has.told done ps rest size next in
          let more =
          info_is terms docs collection n c.docs_of-docs.result c.in-Ok.at.0 c.in-Ok.at.1 c.args.writer.now.lists.all c.term.result.now has.of lt c.term.ensures.term c.docs_of-docs.ensures
          (written.post_at has.told done ps rest size next) (written.skip_at has.told done ps rest size next) in
          indexed_more c.runs_stay.ensures.left c.lists_stay.ensures c.terms_stay.ensures has lt list written.files.all written.can.post written.can.skip
          written.step.same written.step.wrote c.requires.can.base told.took more e.told e.others;
      all = written.files.all;
      step = step_more (step_wider of_lists written.step) (step_lex c.requires.can.base e.told e.others e.reads e.cause.later);
      refused = tt;
      tells = tt;
    }

pub returns-in-Err-push : goal.returns-in-Err-push
returns-in-Err-push g c =
    let written = c.in-Ok.ensures in
    let e = c.push.ensures in
    record {
      can = tt;
      indexed = λ collection has. tt;
      all = written.files.all;
      step = step_more (step_wider of_lists written.step) (step_lex c.requires.can.base e.told e.others e.reads e.cause.later);
      refused = λ collection. store_stops _ c.in-Err-push.refusal _ written.step.later c.in-Err-push.ensures.cause c.of_store.ensures;
      tells = store_tells _ c.in-Err-push.refusal _ c.of_store.ensures;
    }
