use Rattle.std.proofs.Common.{arith}
use Rattle.mg_rank.proofs.FourLaws.{held_number}
use Rattle.mg_rank.proofs.weight.held_weight.Goals as goal

pub returns-in-Some-clause-told : goal.returns-in-Some-clause-told
returns-in-Some-clause-told g c = λ files fits some w small stands.
    held_number files c.args.weights.now.name c.args.at c.in-Some.word w (omega arith) small some (c.in-Some.ensures.told files fits) stands
