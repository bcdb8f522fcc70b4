use Rattle.mg_build.proofs.StepLaws.{turn_done, turn_refused}
use Rattle.mg_build.proofs.source.Source.turn.Goals as goal

pub returns-in-Ok-clause-turns : goal.returns-in-Ok-clause-turns
returns-in-Ok-clause-turns g c = rw (← c.self.view_is) (turn_done c.in-Ok.ensures.turns)

pub returns-in-Err-clause-turns : goal.returns-in-Err-clause-turns
returns-in-Err-clause-turns g c = rw (← c.self.view_is) (turn_refused c.in-Err.ensures.turns)
