use Rattle.std.proofs.Common.{refl}
use Rattle.mg_count.specs.Plans.{IsPlan, IsPlanOf, Plan, plan_by}
use Rattle.mg_count.proofs.Planned.{plan-of-counts}
use Rattle.mg_count.proofs.plan.Plan.of_counts.Goals as goal

pub returns-in-Ok-clause-plan : goal.returns-in-Ok-clause-plan
returns-in-Ok-clause-plan c =
    let p : Plan = plan_by c.in_ok-model.model c.args.pairs.items c.args.open_end in
    let is : IsPlan p = record {
      model = record { words = c.canon.ensures.keeps; others = c.canon-2.ensures.keeps };
      terms = refl;
      pairs = c.requires.few;
      small = c.requires.small;
    } in
    rw c.in-Ok.ensures is

pub returns-in-Ok-clause-of : goal.returns-in-Ok-clause-of
returns-in-Ok-clause-of c = λ collection h.
    let p : Plan = plan_by c.in_ok-model.model c.args.pairs.items c.args.open_end in
    let made = c.in_ok-model.ensures in
    let is : IsPlanOf p collection = plan-of-counts c.terms_are_the_dictionary.ensures.terms c.args.words c.args.others p collection c.requires.few c.canon.ensures.keeps
    c.canon-2.ensures.keeps h made.words made.others made.word_lengths made.other_lengths refl in
    rw c.in-Ok.ensures is
