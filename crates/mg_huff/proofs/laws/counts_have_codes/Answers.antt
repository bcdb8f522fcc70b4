use Rattle.mg_huff.proofs.Existence.{code_of_counts}
use Rattle.mg_huff.proofs.laws.counts_have_codes.Goals as goal

pub returns : goal.returns
returns c = code_of_counts
