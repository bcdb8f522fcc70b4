use Rattle.mg_laws.proofs.InOrderLaws as laws
use Rattle.mg_laws.proofs.inversion.postings_are_lists.Goals as goal

pub returns : goal.returns
returns c = laws.postings_are_lists
