use Rattle.mg_runs.proofs.StepLaws.{look_of}
use Rattle.mg_runs.proofs.walk.read_bytes.Goals as goal

pub returns-in-Ok-clause-step : goal.returns-in-Ok-clause-step
returns-in-Ok-clause-step g c = record { slots = c.fill.ensures.slots; pool = c.fill.ensures.same; memory = tt; look = look_of c.fill.ensures.look.looked }

pub returns-in-Err-clause-step : goal.returns-in-Err-clause-step
returns-in-Err-clause-step g c = record {
  slots = c.fill.ensures.slots;
  pool = c.fill.ensures.same;
  memory = tt;
  look = record {
    looked = c.fill.ensures.look.looked;
    cause = record { later = c.fill.ensures.look.cause.later; device = c.in-Err.ensures.look.cause.failed };
    names = tt;
  };
}
