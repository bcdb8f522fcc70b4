use Rattle.std.proofs.Common.{[], ◌-◌, ◌∙◌, refl, arith}
use Rattle.mg_runs.proofs.OnRun.{on_run_start, on_run_step, on_run_before, on_run_end, group_first, some_posting}
use Rattle.mg_runs.proofs.Puts.{puts_err, puts_more}
use Rattle.mg_defs.specs.declared.TermPosting.{TermPosting}
use Rattle.mg_runs.proofs.run.put_list.Goals as goal

pub put_number-requires-clause-some : goal.put_number-requires-clause-some
put_number-requires-clause-some g c =
    omega (arith, some_posting c.args.entries.now c.requires.some, c.from.ensures, c.distinct-count.ensures.value)

pub loop-from-init : goal.loop-from-init
loop-from-init g c =
    on_run_start c.args.entries.now (c.from.ensures ∙ c.distinct-count.ensures.value) c.requires.order.docs c.in-Ok.ensures.puts c.in-Ok.ensures.place

pub put_posting-requires-clause-follows : goal.put_posting-requires-clause-follows
put_posting-requires-clause-follows g c =
    let p : TermPosting = record { term = c.number_at.result; doc = c.number_at-in-loop-from.result; count = c.group_end-next.result - c.loop-from.from } in
    let doc = c.requires.order.docs c.loop-from.from [] c.loop-from-test.true in
    record {
      before = on_run_before _ c.loop-from.invariant
          (group_first c.args.entries.now c.loop-from.from c.group_end-next.result p c.group_end-next.ensures.group c.number_at.ensures c.number_at-in-loop-from.ensures refl);
      doc = omega (arith, doc, c.number_at-in-loop-from.ensures);
      count = omega (arith, c.group_end-next.ensures.after);
    }

pub loop-from-preserved : goal.loop-from-preserved
loop-from-preserved g c =
    let p : TermPosting = record { term = c.number_at.result; doc = c.number_at-in-loop-from.result; count = c.group_end-next.result - c.loop-from.from } in
    on_run_step {p = p} c.loop-from.invariant
    (group_first c.args.entries.now c.loop-from.from c.group_end-next.result p c.group_end-next.ensures.group c.number_at.ensures c.number_at-in-loop-from.ensures refl)
    c.group_end-next.ensures.after c.group_end-next.ensures.within c.in-Ok-put_posting.ensures.puts c.in-Ok-put_posting.ensures.place

pub returns-in-Err : goal.returns-in-Err
returns-in-Err g c = record { puts = puts_err c.in-Err.ensures.puts; place = tt }

pub returns-in-Err-put_posting : goal.returns-in-Err-put_posting
returns-in-Err-put_posting g c = record { puts = puts_err (puts_more c.loop-from.invariant.puts c.in-Err-put_posting.ensures.puts); place = tt }

pub returns : goal.returns
returns g c =
    let inv = c.loop-from.invariant in
    record { puts = on_run_end inv c.loop-from-test.false; place = omega (arith, inv.place, inv.within) }
