use Rattle.mg_post.proofs.Totals as laws
use Rattle.mg_post.proofs.laws.infos_fit.Goals as goal

pub returns-clause-docs : goal.returns-clause-docs
returns-clause-docs c = laws.docs_fit

pub returns-clause-post_at : goal.returns-clause-post_at
returns-clause-post_at c = laws.byte_fits

pub returns-clause-skip_at : goal.returns-clause-skip_at
returns-clause-skip_at c = laws.entry_fits
