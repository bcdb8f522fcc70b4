use Rattle.mg_bool.proofs.StayLaws as laws
use Rattle.mg_bool.proofs.laws.all_are_to_come.Goals as goal

pub returns : goal.returns
returns c = laws.all_left
