use Rattle.mg_post.proofs.TermLaws as laws
use Rattle.mg_post.proofs.laws.each_page_is_read_once.Goals as goal

pub returns-clause-reached : goal.returns-clause-reached
returns-clause-reached c = laws.once_for

pub returns-clause-span : goal.returns-clause-span
returns-clause-span c = laws.span_for
