use Rattle.mg_post.proofs.TermLaws as laws
use Rattle.mg_post.proofs.laws.cursor_for_later.Goals as goal

pub returns : goal.returns
returns c = laws.cursor_later
