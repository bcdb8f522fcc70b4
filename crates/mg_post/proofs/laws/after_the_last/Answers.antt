use Rattle.mg_post.proofs.StandLaws as laws
use Rattle.mg_post.proofs.laws.after_the_last.Goals as goal

pub returns : goal.returns
returns c = laws.ended
