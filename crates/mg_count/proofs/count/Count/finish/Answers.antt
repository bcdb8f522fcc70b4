use Rattle.std.proofs.Common.{ℕ, List}
use Rattle.mg_dev.specs.declared.fault.Fault.{Fault}
use Rattle.mg_count.specs.Counting.{EndStops, FirstPass, HasCounted}
use Rattle.mg_count.proofs.Counted.{passed-on}
use Rattle.mg_count.proofs.count.Count.finish.Goals as goal

abbrev Refused : FirstPass → Fault → Type 0
Refused given fault = (fed : List ℕ) → HasCounted given fed → EndStops fed fault

pub returns-in_err-counts-clause-refused : goal.returns-in_err-counts-clause-refused
returns-in_err-counts-clause-refused c =
    let fault : Fault = c.in_err-counts.field-0.0 in
    passed-on c.from_residual.result fault (Refused c.args.self) c.from_residual.ensures.1 c.in_err-counts.ensures.refused

pub plan_of-requires-clause-counted : goal.plan_of-requires-clause-counted
plan_of-requires-clause-counted c =
    let given = c.requires.given in
    (given.0, c.in_ok-counts.ensures.counted given.0 given.1 given.2)

pub returns-in-Ok-clause-of : goal.returns-in-Ok-clause-of
returns-in-Ok-clause-of c = λ fed given few. c.in-Ok.ensures.of fed (c.in_ok-counts.ensures.counted fed given few)
