use Rattle.std.proofs.Common.{arith}
use Rattle.mg_make.specs.Counting.{HasCounted}
use Rattle.mg_build.proofs.PassLaws.{pass_end_all, plan_of_file, plan_with, tells_end_all}
use Rattle.mg_build.proofs.StepLaws.{counts_ended, counts_refused}
use Rattle.mg_build.proofs.passes.count_all.Goals as goal

pub returns-in-Err-clause-counts : goal.returns-in-Err-clause-counts
returns-in-Err-clause-counts g c = counts_refused c.in-Err.ensures.counts

pub returns-in-Ok-clause-counts : goal.returns-in-Ok-clause-counts
returns-in-Ok-clause-counts g c =
    let counted = c.in-Ok.ensures.counted in
    counts_ended c.finish.result c.in-Ok.ensures.counts
    (pass_end_all c.finish.result (λ fed. HasCounted c.in-Ok.count fed) _ _ _ counted.0 _ counted.1 counted.2 c.finish.ensures.refused)
    (tells_end_all c.finish.result (λ fed. HasCounted c.in-Ok.count fed) counted.0 _ counted.2 c.finish.ensures.refused)

pub returns-in-Ok-clause-read : goal.returns-in-Ok-clause-read
returns-in-Ok-clause-read g c =
    let counted = c.in-Ok.ensures.counted in
    plan_with c.finish.result counted.0 counted.1
    (c.finish.ensures.of counted.0 counted.2 (omega (arith, counted.1.size, c.in-Ok.ensures.counts.small)))

pub returns-in-Ok-clause-of : goal.returns-in-Ok-clause-of
returns-in-Ok-clause-of g c =
    let counted = c.in-Ok.ensures.counted in
    plan_of_file c.finish.result counted.0 counted.1
    (c.finish.ensures.of counted.0 counted.2 (omega (arith, counted.1.size, c.in-Ok.ensures.counts.small)))
