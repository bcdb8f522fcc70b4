use Rattle.mg_layout.proofs.LoadFacts.{answers_back}
use Rattle.mg_layout.proofs.head.Head.load.Goals as goal

pub returns-clause-back : goal.returns-clause-back
returns-clause-back g c = λ told h is. answers_back _ _ _ h c.load_from.result is (c.load_from.ensures.answer told)
