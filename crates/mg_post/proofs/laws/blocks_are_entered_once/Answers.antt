use Rattle.mg_post.proofs.LifeLaws as laws
use Rattle.mg_post.proofs.laws.blocks_are_entered_once.Goals as goal

pub returns-clause-start : goal.returns-clause-start
returns-clause-start c = laws.starts_entered

pub returns-clause-more : goal.returns-clause-more
returns-clause-more c = laws.entered_more

pub returns-clause-most : goal.returns-clause-most
returns-clause-most c = laws.entered_most

pub returns-clause-few : goal.returns-clause-few
returns-clause-few c = laws.pages_few

pub returns-clause-skip : goal.returns-clause-skip
returns-clause-skip c = laws.entries_few

pub returns-clause-reads : goal.returns-clause-reads
returns-clause-reads c = laws.reads_after
