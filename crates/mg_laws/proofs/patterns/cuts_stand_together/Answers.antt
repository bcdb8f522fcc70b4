use Rattle.mg_laws.proofs.RotationOrder as laws
use Rattle.mg_laws.proofs.patterns.cuts_stand_together.Goals as goal

pub returns-clause-below : goal.returns-clause-below
returns-clause-below c = laws.below_before

pub returns-clause-above : goal.returns-clause-above
returns-clause-above c = laws.above_behind

pub returns-clause-at : goal.returns-clause-at
returns-clause-at c = laws.at_cuts

pub returns-clause-cut : goal.returns-clause-cut
returns-clause-cut c = laws.cuts_at
