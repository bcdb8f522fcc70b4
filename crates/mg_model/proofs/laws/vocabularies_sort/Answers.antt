use Rattle.mg_model.proofs.Order.{sorted-long}
use Rattle.mg_model.proofs.laws.vocabularies_sort.Goals as goal

pub returns : goal.returns
returns c = λ entries is. sorted-long entries is.distinct
