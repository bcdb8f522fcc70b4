use Rattle.std.proofs.Common.{rules, arith, ◌∙◌, Ok}
use Rattle.std.specs.declared.result.Result.{Result}
use Rattle.mg_dev.specs.declared.part_err.PartErr.{PartErr}
use Rattle.mg_check_index.proofs.PairLaws.{put-done, put-part}
use Rattle.mg_check_index.proofs.WrittenLaws.{names_same, puts_none, puts_err, puts_nowhere, puts_then}
use Rattle.mg_check_index.proofs.list_written.write_list.Goals as goal

abbrev unit-done : Result (Unit {0}) PartErr
unit-done = Ok tt

pub begin-requires-clause-took : goal.begin-requires-clause-took
begin-requires-clause-took g c = (c.requires.can.between.done, c.requires.can.between.took)

pub begin-requires-clause-within : goal.begin-requires-clause-within
begin-requires-clause-within g c = omega (arith, c.requires.can.within, c.requires.can.between.all_are)

pub write_postings-requires-clause-between : goal.write_postings-requires-clause-between
write_postings-requires-clause-between g c =
    let between = c.requires.can.between in
    record { done = between.done; took = c.begin.ensures.took between.done between.took; all_are = c.begin.ensures.same.all ∙ between.all_are; few = between.few }

pub end_list-requires-clause-took : goal.end_list-requires-clause-took
end_list-requires-clause-took g c =
    let between = c.requires.can.between in
    (between.done, c.args.postings.now, c.in-Ok-write_postings.ensures.took between.done (c.begin.ensures.took between.done between.took))

pub returns-then-found-count-clause-step : goal.returns-then-found-count-clause-step
returns-then-found-count-clause-step g c = puts_none _ _ _ (names_same c.args.writer.now) (record { later = omega arith; device = tt })

pub returns-in-Err-clause-step : goal.returns-in-Err-clause-step
returns-in-Err-clause-step g c =
    puts_nowhere g.T.Store.files g.T.Store.reads g.T.Store.faults c.args.store.now c.begin.new._store c.begin.ensures.store c.begin.ensures.same (λ n. record { later = omega arith; device = tt })

pub returns-in-Err-write_postings-clause-step : goal.returns-in-Err-write_postings-clause-step
returns-in-Err-write_postings-clause-step g c =
    puts_then (puts_nowhere g.T.Store.files g.T.Store.reads g.T.Store.faults {result = unit-done} c.args.store.now c.begin.new._store c.begin.ensures.store c.begin.ensures.same
    (λ n. record { later = omega arith; device = tt })) (puts_err c.in-Err-write_postings.ensures.step)

pub returns-in-Ok-end_list-clause-step : goal.returns-in-Ok-end_list-clause-step
returns-in-Ok-end_list-clause-step g c =
    let step = c.end_list.ensures.step in
    puts_then (puts_then (puts_nowhere g.T.Store.files g.T.Store.reads g.T.Store.faults {result = unit-done} c.args.store.now c.begin.new._store c.begin.ensures.store c.begin.ensures.same
    (λ n. record { later = omega arith; device = tt })) c.in-Ok-write_postings.ensures.step)
    (record { same = step.same; told = step.told; reads = step.reads; cause = put-done _ _ step.cause })

pub returns-in-Err-end_list-clause-step : goal.returns-in-Err-end_list-clause-step
returns-in-Err-end_list-clause-step g c =
    let step = c.in-Err-end_list.ensures.step in
    puts_then (puts_then (puts_nowhere g.T.Store.files g.T.Store.reads g.T.Store.faults {result = unit-done} c.args.store.now c.begin.new._store c.begin.ensures.store c.begin.ensures.same
    (λ n. record { later = omega arith; device = tt })) c.in-Ok-write_postings.ensures.step)
    (record { same = step.same; told = step.told; reads = step.reads; cause = put-part _ _ _ _ c.refusal_of.ensures.failed step.cause })

pub returns-then-found-count-clause-written : goal.returns-then-found-count-clause-written
returns-then-found-count-clause-written g c =
    record { took = tt; between = tt; total = tt; answer = tt; never_bad = λ rises is. search rules }

pub returns-in-Err-clause-written : goal.returns-in-Err-clause-written
returns-in-Err-clause-written g c = record { took = tt; between = tt; total = tt; answer = tt; never_bad = λ rises is. search rules }

pub returns-in-Err-write_postings-clause-written : goal.returns-in-Err-write_postings-clause-written
returns-in-Err-write_postings-clause-written g c =
    record { took = tt; between = tt; total = tt; answer = tt; never_bad = λ rises is. c.in-Err-write_postings.ensures.never_bad rises }

pub returns-in-Ok-end_list-clause-written : goal.returns-in-Ok-end_list-clause-written
returns-in-Ok-end_list-clause-written g c = record {
  took = λ done took. c.in-Ok-end_list.ensures.took done c.args.postings.now
      (c.in-Ok-write_postings.ensures.took done (c.begin.ensures.took done took));
  between = c.in-Ok-end_list.ensures.between.pushed;
  total = search rules;
  answer = search rules;
  never_bad = λ rises is. tt;
}

pub returns-in-Err-end_list-clause-written : goal.returns-in-Err-end_list-clause-written
returns-in-Err-end_list-clause-written g c =
    record { took = tt; between = tt; total = tt; answer = tt; never_bad = λ rises is. c.refusal_of.ensures.never_bad }
