use Rattle.std.proofs.Common.{ℕ, refl}
use Rattle.mg_dev.proofs.CallerLemmas.{cause_ok}
use Rattle.mg_runs.proofs.Finishing.{finish_err}
use Rattle.mg_runs.proofs.Steps.{put_as}
use Rattle.mg_runs.proofs.runs.Runs.finish.Goals as goal

pub returns-in-Ok : goal.returns-in-Ok
returns-in-Ok g c = record {
  finished =
      record {
        run = c.in-Ok.ensures.closed.run;
        bytes = c.in-Ok.ensures.closed.bytes;
        places = rw (← c.runs.view_is) at c.in-Ok.ensures.closed.places;
        undamaged = tt;
        entries = rw (← c.runs.view_is) at c.in-Ok.ensures.closed.entries;
        limit = rw (← c.runs.view_is) at c.close.ensures.closed.limit;
        peak = rw (← c.runs.view_is) at c.close.ensures.closed.peak;
        base = rw (← c.runs.view_is) at c.close.ensures.closed.base;
        part = refl;
        wrote = c.close.ensures.closed.wrote;
        cause = cause_ok c.close.ensures.closed.cause.later;
        names = tt;
      };
}

pub returns : goal.returns
returns g c = record {
  finished =
      finish_err c.refused.result c.close.ensures.closed.wrote (c.refused.ensures.cause _ _ (put_as (Unit {0}) ℕ _ _ _ c.in-Err.ensures.closed.cause)) c.refused.ensures.undamaged
      c.refused.ensures.names_its;
}
