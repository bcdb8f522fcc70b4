use Rattle.mg_defs.proofs.StandLists as laws
use Rattle.mg_post.proofs.laws.post_is_short.Goals as goal

pub returns : goal.returns
returns c = laws.post_short
