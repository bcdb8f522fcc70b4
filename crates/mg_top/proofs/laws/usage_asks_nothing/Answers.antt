use Rattle.mg_top.proofs.Asked.{only_wrong_words}
use Rattle.mg_top.proofs.laws.usage_asks_nothing.Goals as goal

pub returns : goal.returns
returns c = only_wrong_words
