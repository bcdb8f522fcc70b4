use Rattle.std.proofs.Common.{refl, ◌∙◌}
use Rattle.mg_mem.specs.Plans.{calls_of, keep_at}
use Rattle.mg_mem.proofs.PlanLaws.{keep-before, keep-after, keep_from-at, keep_from-below}
use Rattle.mg_mem.proofs.failure_plan.FailurePlan.fail_from.Goals as goal

pub returns : goal.returns
unfolding keep_at calls_of
returns c = record {
  calls = refl;
  from = λ n later. rw (c.drop_from.ensures, c.lesser.ensures)
      (keep-after c.args.self.now.planned.items c.args.call n _ later ∙ keep_from-at c.args.self.now.fails_from c.args.call n later);
  others = λ n earlier. rw (c.drop_from.ensures, c.lesser.ensures, keep_from-below c.args.self.now.fails_from c.args.call n earlier)
      (keep-before c.args.self.now.planned.items c.args.call n _ earlier);
}
