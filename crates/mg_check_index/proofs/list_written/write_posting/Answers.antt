use Rattle.std.proofs.Common.{arith}
use Rattle.mg_check_index.proofs.PairLaws.{put-done, put-part}
use Rattle.mg_check_index.proofs.WrittenLaws.{first_follows, names_same, puts_none}
use Rattle.mg_check_index.proofs.list_written.write_posting.Goals as goal

pub returns-then-posting-last-clause-never_bad : goal.returns-then-posting-last-clause-never_bad
returns-then-posting-last-clause-never_bad g c = λ left rises. let follows = first_follows _ _ _ _ rises in absurd (omega (arith, follows.after, c.if-posting-last.true))

pub returns-then-posting-all-clause-never_bad : goal.returns-then-posting-all-clause-never_bad
returns-then-posting-all-clause-never_bad g c = λ left rises. let follows = first_follows _ _ _ _ rises in absurd (omega (arith, follows.within, c.if-posting-all.true))

pub returns-then-posting-eq0-clause-never_bad : goal.returns-then-posting-eq0-clause-never_bad
returns-then-posting-eq0-clause-never_bad g c = λ left rises. let follows = first_follows _ _ _ _ rises in absurd (omega (arith, follows.some, c.if-posting-eq0.true))

pub returns-then-posting-last-clause-step : goal.returns-then-posting-last-clause-step
returns-then-posting-last-clause-step g c = puts_none _ _ _ (names_same c.args.writer.now) (record { later = omega arith; device = tt })

pub returns-then-posting-all-clause-step : goal.returns-then-posting-all-clause-step
returns-then-posting-all-clause-step g c = puts_none _ _ _ (names_same c.args.writer.now) (record { later = omega arith; device = tt })

pub returns-then-posting-eq0-clause-step : goal.returns-then-posting-eq0-clause-step
returns-then-posting-eq0-clause-step g c = puts_none _ _ _ (names_same c.args.writer.now) (record { later = omega arith; device = tt })

pub returns-in-Ok-clause-step : goal.returns-in-Ok-clause-step
returns-in-Ok-clause-step g c =
    let step = c.push.ensures.step in
    record { same = step.same; told = step.told; reads = step.reads; cause = put-done _ _ step.cause }

pub returns-in-Err-clause-step : goal.returns-in-Err-clause-step
returns-in-Err-clause-step g c =
    let step = c.in-Err.ensures.step in
    record { same = step.same; told = step.told; reads = step.reads; cause = put-part _ _ _ _ c.refusal_of.ensures.failed step.cause }
