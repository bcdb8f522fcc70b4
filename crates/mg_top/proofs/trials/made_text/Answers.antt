use Rattle.mg_top.proofs.TrialSteps.{put_first}
use Rattle.mg_top.proofs.trials.made_text.Goals as goal

pub returns-in-Ok-clause-text : goal.returns-in-Ok-clause-text
returns-in-Ok-clause-text c = put_first _ _ _ c.new-out.ensures.written c.in-Ok.ensures.text
