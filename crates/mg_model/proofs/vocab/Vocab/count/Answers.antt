use Rattle.std.proofs.Common.{◌∙◌}
use Rattle.std.proofs.lemmas.Result.{on_ok_weaker}
use Rattle.mg_model.proofs.Counting.{counted-once}
use Rattle.mg_model.proofs.vocab.Vocab.count.Goals as goal

pub returns-clause-counted : goal.returns-clause-counted
returns-clause-counted c = on_ok_weaker c.count_times.result (λ is. is ∙ counted-once c.args.piece.now c.args.self.now) c.count_times.ensures.counted
