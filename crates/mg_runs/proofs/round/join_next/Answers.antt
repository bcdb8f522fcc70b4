use Rattle.std.proofs.Common.{◌++◌, ◌∷◌, [], ◌∙◌, ap}
use Rattle.mg_dev.specs.declared.part_err.PartErr.TheVariants.{Memory}
use Rattle.mg_runs.specs.declared.pool.Pool.{Pool}
use Rattle.mg_runs.specs.declared.round.Joined.{Joined}
use Rattle.mg_runs.proofs.StepLaws.{run_err, run_ok, writer_bad, writer_err, writer_none}
use Rattle.mg_runs.proofs.Steps.{tells_err}
use Rattle.mg_runs.proofs.round.join_next.Goals as goal

pub join-requires : goal.join-requires
join-requires g c = record {
  ready = record {
    slots = c.requires.ready.slots;
    writer = c.requires.ready.writer;
    whole = c.requires.ready.whole;
  };
}

pub returns-in-Err : goal.returns-in-Err
returns-in-Err g c = record {
  told = λ told runs at is. tt;
  pool = tt;
  places = tt;
  step = run_err (writer_bad {T = Unit {0}} {x = tt} Memory (writer_none _ _ _ c.requires.ready.writer.holds) (λ f g. tt) tt);
}

pub returns-in-Ok-join : goal.returns-in-Ok-join
returns-in-Ok-join g c = record {
  told = c.in-Ok-join.ensures.told;
  pool = c.in-Ok-join.ensures.pool;
  places = c.in-Ok.ensures.items ∙ ap (λ p. c.args.made.places.items ++ p ∷ []) c.place.ensures;
  step = run_ok c.in-Ok-join.ensures.step;
}

pub returns-in-Err-join : goal.returns-in-Err-join
returns-in-Err-join g c = record {
  told = λ told runs at is. tells_err Pool Joined _ _ c.in-Err-join.refusal (c.in-Err-join.ensures.told told runs at is);
  pool = tt;
  places = tt;
  step = run_err (writer_err c.in-Err-join.ensures.step.writer);
}
