use Rattle.mg_top.proofs.TrialLaws.{there_by}
use Rattle.mg_top.proofs.trials.put_text.Goals as goal

pub returns-in-Ok-clause-there : goal.returns-in-Ok-clause-there
returns-in-Ok-clause-there g c = there_by _ _ _ c.requires.none c.in-Ok.ensures.content
