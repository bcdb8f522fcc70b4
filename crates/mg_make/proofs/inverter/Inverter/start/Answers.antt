use Rattle.std.proofs.Common.{ap, refl}
use Rattle.mg_runs.specs.Pooled.{Pooled}
use Rattle.mg_index.proofs.CallerLemmas.{cause_done, put_cause}
use Rattle.mg_make.proofs.Frames.{runs_alone}
use Rattle.mg_make.proofs.inverter.Inverter.start.Goals as goal

pub returns-in-Ok : goal.returns-in-Ok
returns-in-Ok g c =
    let e = c.start.ensures in
    record {
      taken = λ terms counts. record { runs = c.in-Ok.ensures.fed; counts = counts; occurrences = refl };
      base = c.in-Ok.ensures.base;
      limit = ap (λ (p : Pooled). p.limit) c.in-Ok.ensures.pool;
      wrote = runs_alone c.args.base.now _ _ e.told e.others;
      reads = e.reads;
      cause = cause_done e.cause.later;
    }

pub returns-in-Err : goal.returns-in-Err
returns-in-Err g c =
    let e = c.start.ensures in
    record { taken = tt; base = tt; limit = tt; wrote = runs_alone c.args.base.now _ _ e.told e.others; reads = e.reads; cause = put_cause c.in-Err.ensures.cause }
