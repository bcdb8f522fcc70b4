use Rattle.mg_laws.proofs.DocCountLaws as laws
use Rattle.mg_laws.proofs.counts.occurrences_in_range.Goals as goal

pub returns : goal.returns
returns c = laws.occurrences_in_range
