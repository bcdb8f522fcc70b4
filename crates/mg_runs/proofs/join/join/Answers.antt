use Rattle.std.proofs.Common.{arith}
use Rattle.mg_runs.specs.declared.join.Counted.{Counted}
use Rattle.mg_runs.specs.declared.pool.Pool.{Pool}
use Rattle.mg_runs.proofs.StepLaws.{back_then, run_err, run_then, slots_back, writer_bad, writer_look, writer_look_err}
use Rattle.mg_runs.proofs.Steps.{tells_none}
use Rattle.mg_runs.proofs.join.join.Goals as goal

pub returns-in-Err : goal.returns-in-Err
returns-in-Err g c = record {
  told = λ told runs at is. tells_none Counted Pool _ c.in-Err.refusal (c.in-Err.ensures.undamaged told runs at is.are (omega (arith, is.few)));
  pool = tt;
  step = run_err (writer_look_err c.in-Err.ensures.read);
}

pub returns-then-counted-eq0-clause-step : goal.returns-then-counted-eq0-clause-step
returns-then-counted-eq0-clause-step g c =
    run_err (writer_bad c.damage.result (writer_look c.requires.ready.writer.holds c.in-Ok.ensures.read) c.damage.ensures.caused c.damage.ensures.names)

pub count_runs-requires : goal.count_runs-requires
count_runs-requires g c = record { slots = c.requires.ready.slots }

pub join_counted-requires-clause-ready : goal.join_counted-requires-clause-ready
join_counted-requires-clause-ready g c = record {
  slots = slots_back c.requires.ready.slots c.in-Ok.ensures.pool;
  writer = record {
    holds = rw c.count_runs.ensures.read.looked.files c.requires.ready.writer.holds;
    apart = c.requires.ready.writer.apart;
  };
  whole = c.requires.ready.whole;
}

pub returns : goal.returns
returns g c =
    let files = c.count_runs.ensures.read.looked.files in
    record {
      told = λ told runs at is.
          let next = rw files at c.join_counted.ensures.told in
          next told runs at is (c.in-Ok.ensures.told told runs at is.are);
      pool = back_then c.join_counted.result c.in-Ok.ensures.pool c.join_counted.ensures.pool;
      step = run_then (writer_look c.requires.ready.writer.holds c.in-Ok.ensures.read) c.join_counted.ensures.step;
    }
