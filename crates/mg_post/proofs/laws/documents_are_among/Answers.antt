use Rattle.mg_post.proofs.LifeLaws as laws
use Rattle.mg_post.proofs.laws.documents_are_among.Goals as goal

pub returns : goal.returns
returns c = laws.among
