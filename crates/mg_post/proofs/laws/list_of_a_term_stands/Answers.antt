use Rattle.mg_post.proofs.StandLaws as laws
use Rattle.mg_post.proofs.laws.list_of_a_term_stands.Goals as goal

pub returns : goal.returns
returns c = laws.term_stands
