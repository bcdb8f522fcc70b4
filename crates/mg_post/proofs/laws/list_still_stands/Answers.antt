use Rattle.mg_post.proofs.StandLaws as laws
use Rattle.mg_post.proofs.laws.list_still_stands.Goals as goal

pub returns : goal.returns
returns c = laws.stands_same
