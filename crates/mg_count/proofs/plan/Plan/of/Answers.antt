use Rattle.std.proofs.Common.{refl}
use Rattle.mg_count.specs.Plans.{Plan, plan_by}
use Rattle.mg_count.proofs.Planned.{PlanLaws, plan-is, plan-of}
use Rattle.mg_count.proofs.plan.Plan.of.Goals as goal

pub returns-in-Ok-clause-plan : goal.returns-in-Ok-clause-plan
returns-in-Ok-clause-plan c =
    let laws : PlanLaws = record {
      limits = c.limits_of_marks.ensures.back;
      pieces = c.marks_have_all.ensures.pieces;
      pairs = c.marks_have_all.ensures.pairs;
      few_pairs = c.few_of_each.ensures.pairs;
      models = c.codes_are_models.ensures;
      terms = c.terms_are_the_dictionary.ensures.terms;
    } in
    let p : Plan = plan_by c.in_ok-model.model c.into_parts-words.result.2.items c.args.open_end in
    let parts = c.into_parts-words in
    let made = c.in_ok-model.ensures in
    let counted = c.requires.counted in
    let of = plan-of laws c.args.counts parts.result.0 parts.result.1 p counted.0 counted.1 parts.ensures.words parts.ensures.others parts.ensures.pairs
    made.words made.others made.word_lengths made.other_lengths refl in
    rw c.in-Ok.ensures (plan-is laws p counted.0 counted.1.few of refl)

pub returns-in-Ok-clause-of : goal.returns-in-Ok-clause-of
returns-in-Ok-clause-of c = λ collection h.
    let laws : PlanLaws = record {
      limits = c.limits_of_marks.ensures.back;
      pieces = c.marks_have_all.ensures.pieces;
      pairs = c.marks_have_all.ensures.pairs;
      few_pairs = c.few_of_each.ensures.pairs;
      models = c.codes_are_models.ensures;
      terms = c.terms_are_the_dictionary.ensures.terms;
    } in
    let p : Plan = plan_by c.in_ok-model.model c.into_parts-words.result.2.items c.args.open_end in
    let parts = c.into_parts-words in
    let made = c.in_ok-model.ensures in
    rw c.in-Ok.ensures (plan-of laws c.args.counts parts.result.0 parts.result.1 p collection h parts.ensures.words parts.ensures.others parts.ensures.pairs
    made.words made.others made.word_lengths made.other_lengths refl)
