use Rattle.mg_runs.proofs.Puts.{put_within}
use Rattle.mg_runs.proofs.Short.{gamma_short}
use Rattle.mg_runs.proofs.posting.put_number.Goals as goal

pub returns-clause-place : goal.returns-clause-place
returns-clause-place g c = put_within _ _ _ _ _ 66 c.put_gamma.result c.put_gamma.ensures.bits (gamma_short c.args.x c.requires.some c.requires.below)
