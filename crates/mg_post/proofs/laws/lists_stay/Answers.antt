use Rattle.mg_post.proofs.StandLaws as laws
use Rattle.mg_post.proofs.laws.lists_stay.Goals as goal

pub returns : goal.returns
returns c = laws.took_stays
