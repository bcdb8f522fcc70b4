use Rattle.mg_defs.proofs.Joining.{merged-all}
use Rattle.mg_defs.proofs.postings.merged_runs.Goals as goal

pub returns : goal.returns
returns c = merged-all
