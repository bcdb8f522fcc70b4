use Rattle.mg_post.proofs.TermLaws as laws
use Rattle.mg_post.proofs.laws.cursor_pages_are_within.Goals as goal

pub returns : goal.returns
returns c = laws.pages_few_for
