use Rattle.mg_runs.proofs.SlotLaws.{looked_once}
use Rattle.mg_runs.proofs.slot.read_slot.Goals as goal

pub returns-clause-look : goal.returns-clause-look
returns-clause-look g c = record {
  looked = looked_once _ _ _ _ _ _ _ c.read_at.ensures.files c.read_at.ensures.cause.later c.read_at.ensures.reads;
  cause = c.read_at.ensures.cause;
}
