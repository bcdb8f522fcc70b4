use Rattle.std.proofs.Common.{◌++◌, ◌∷◌, [], ◌∙◌, refl, ap, arith}
use Rattle.mg_runs.proofs.LastRun.{on_ok}
use Rattle.mg_runs.proofs.runs.end_run.Goals as goal

pub returns-in-Ok : goal.returns-in-Ok
returns-in-Ok g c = record {
  spilled = c.spill.ensures;
  places = on_ok _ c.spill.result (c.in-Ok.ensures.items ∙ ap (λ p. c.args.places.now.items ++ p ∷ []) c.place.ensures);
}

pub returns-in-Err : goal.returns-in-Err
returns-in-Err g c = record {
  spilled = record {
    holds = tt;
    whole = tt;
    bits = tt;
    place = tt;
    empty = tt;
    slots = tt;
    peak = refl;
    limit = refl;
    name = refl;
    wrote = record { told = refl; others = λ n away. refl; reads = λ p. refl };
    cause = record { later = omega arith; failed = λ e. absurd cc };
  };
  places = tt;
}
