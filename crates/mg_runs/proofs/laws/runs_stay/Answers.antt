use Rattle.mg_runs.proofs.Kept.{fed_kept, merging_kept}
use Rattle.mg_runs.proofs.laws.runs_stay.Goals as goal

pub returns-clause-fed : goal.returns-clause-fed
returns-clause-fed c = fed_kept

pub returns-clause-left : goal.returns-clause-left
returns-clause-left c = merging_kept
