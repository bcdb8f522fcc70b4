use Rattle.mg_runs.proofs.Parts.{reset_wrote, reset_empty}
use Rattle.mg_runs.proofs.runs.reset_part.Goals as goal

pub returns-clause-empty : goal.returns-clause-empty
returns-clause-empty g c = λ told. reset_empty _ _ _ _ c.reset.ensures.content told

pub returns-clause-wrote : goal.returns-clause-wrote
returns-clause-wrote g c = reset_wrote _ _ _ _ _ _ c.reset.ensures.content c.reset.ensures.reads
