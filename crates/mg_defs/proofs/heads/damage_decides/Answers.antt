use Rattle.mg_defs.proofs.heads.damage_decides.Goals as goal
use Rattle.mg_defs.proofs.HeadLaws.{no_damage, undamaged}

pub returns-clause-none : goal.returns-clause-none
returns-clause-none c = no_damage

pub returns-clause-head : goal.returns-clause-head
returns-clause-head c = undamaged
