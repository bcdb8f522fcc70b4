use Rattle.std.proofs.Common.{arith, ◌≡◌, ◌∙◌, ap, length, refl, rules}
use Rattle.std.proofs.lemmas.List.{length-map}
use Rattle.mg_defs.specs.declared.Stream.TheVariants.{Others, Words}
use Rattle.mg_defs.specs.CodedText.{text_part}
use Rattle.mg_defs.specs.Heads.{run_count}
use Rattle.mg_defs.specs.Occurrences.{occurrences}
use Rattle.mg_defs.specs.Parse.{parse}
use Rattle.mg_defs.specs.Split.{documents, has_open_end}
use Rattle.mg_defs.specs.Stands.{post_part, skip_count}
use Rattle.mg_defs.specs.Summaries.{run_cap}
use Rattle.mg_defs.specs.Terms.{dictionary}
use Rattle.mg_defs.specs.Vocabulary.{sorted_pieces}
use Rattle.mg_count.specs.Plans.{Plan}
use Rattle.mg_make.proofs.Finishing.{planned_occurrences}
use Rattle.mg_make.proofs.RestSteps.{few_occurring, few_terms_of, handed_count, handed_docs, handed_high, handed_lists, handed_low, handed_peak, handed_runs, handed_sizes, handed_text, rest_stops, rest_tells, same_heads}
use Rattle.mg_make.proofs.SortLaws.{sort_merge}
use Rattle.mg_make.proofs.set_parts.write_rest.Goals as goal

pub write_all-requires-clause-sizes : goal.write_all-requires-clause-sizes
write_all-requires-clause-sizes g c = handed_sizes c.args.rest.now.plan.now c.args.rest.now.limit c.args.base.now c.requires.handed.0 c.requires.handed.1 _ c.args.inverted.now c.requires.handed.2

pub returns-in-Err : goal.returns-in-Err
returns-in-Err g c = record {
  within = tt;
  head = λ fed before handed size told plan_of. tt;
  peak = λ fed before handed plan_of. tt;
  stand = λ fed before handed told plan_of. tt;
  step = sort_merge c.in-Err.ensures.step;
  refused = λ fed before handed.
      rest_stops c.args.rest.now.plan.now c.args.rest.now.limit c.args.base.now fed before _ c.args.inverted.now handed _ c.in-Err.refusal c.in-Err.ensures.refused;
  tells = λ fed before handed.
      rest_tells c.args.rest.now.plan.now c.args.rest.now.limit c.args.base.now fed before _ c.args.inverted.now handed c.in-Err.refusal c.in-Err.ensures.tells;
}

pub returns : goal.returns
returns g c =
    let plan : Plan = c.args.rest.now.plan.now in
    let limit = c.args.rest.now.limit in
    let base = c.args.base.now in
    let r = c.args.inverted.now in
    let mine = c.requires.handed.2 in
    let own = c.requires.handed.0 in
    let first = c.requires.handed.1 in
    let entries = c.entries-entries.ensures in
    let kept = c.in-Ok.ensures.step.same in
    record {
      within = record {
        version_low = omega arith;
        version_high = omega arith;
        documents = omega (arith, entries.documents, c.requires.plan.pairs);
        words = omega (arith, entries.few_words);
        others = omega (arith, entries.few_others);
        terms = omega (arith, entries.terms, entries.words, entries.few_words, few_terms_of plan c.requires.plan);
        cap_low = omega (arith, handed_low plan limit base own first _ r mine);
        cap_high = omega (arith, handed_high plan limit base own first _ r mine);
        collection = omega (arith, mine.few, c.requires.handed.3);
        occurrences = omega (arith, handed_count plan limit base own first _ r mine, few_occurring plan own, c.requires.handed.3);
        runs = c.runs.ensures ∙ kept.runs ∙ handed_runs plan limit base own first _ r mine;
        text_bytes = search rules;
        post_bytes = search rules;
        skip_count = omega (arith, c.in-Ok.ensures.few, handed_docs plan limit base own first _ r mine);
      };
      head = λ fed before handed size told plan_of.
          let lists = handed_lists plan limit base fed before _ r handed told plan_of in
          let documents : c.entries-entries.result.documents ≡ length (documents fed) = entries.documents ∙ ap length plan_of.pairs ∙ length-map (documents fed) (λ doc. length (parse doc)) in
          let words : c.entries-entries.result.words ≡ length (sorted_pieces Words fed) = entries.words ∙ ap length plan_of.code.0.pieces in
          let others : c.entries-entries.result.others ≡ length (sorted_pieces Others fed) = entries.others ∙ ap length plan_of.code.1.pieces in
          let terms : c.entries-entries.result.terms ≡ length (dictionary fed) = entries.terms ∙ ap length plan_of.terms in
          let end : c.plan.inside.open_end ≡ has_open_end fed = ap (λ (p : Plan). p.open_end) c.plan.view_is ∙ plan_of.open_end in
          let count : r.occurrences ≡ length (occurrences fed) = handed_count plan limit base fed before _ r handed ∙ ap length (planned_occurrences plan fed plan_of) in
          let runs : c.runs.result ≡ run_count (length (occurrences fed)) (run_cap limit)
          = c.runs.ensures ∙ kept.runs ∙ handed_runs plan limit base fed before _ r handed ∙ ap (λ n. run_count n (run_cap limit)) count in
          let text : r.text_bytes ≡ length (text_part plan.code fed) = handed_text plan limit base fed before _ r handed c.text_has_its_documents.ensures.text plan_of in
          let post : c.in-Ok.sizes.post_bytes ≡ length (post_part fed) = c.in-Ok.ensures.post_bytes fed lists in
          let skip : c.in-Ok.sizes.skip_count ≡ skip_count fed = c.in-Ok.ensures.skip_count fed lists in
          same_heads _ _ refl documents words others terms refl end size count runs text post skip;
      peak = λ fed before handed plan_of. c.peak.ensures ∙ kept.peak ∙ handed_peak plan limit base fed before _ r handed plan_of;
      stand = λ fed before handed told plan_of. c.in-Ok.ensures.stand fed (handed_lists plan limit base fed before _ r handed told plan_of);
      step = sort_merge c.in-Ok.ensures.step;
      refused = tt;
      tells = tt;
    }
