use Rattle.mg_top.proofs.TrialSteps.{told_same}
use Rattle.mg_top.proofs.trials.try_all.Goals as goal

pub try_text-requires : goal.try_text-requires
try_text-requires g c = record { none = c.requires.none; made = told_same _ _ _ c.bytes.ensures c.in-Ok.ensures.text }
