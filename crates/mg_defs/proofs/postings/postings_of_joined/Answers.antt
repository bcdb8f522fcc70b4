use Rattle.mg_defs.proofs.Joining.{postings-append}
use Rattle.mg_defs.proofs.postings.postings_of_joined.Goals as goal

pub returns : goal.returns
returns c = postings-append
