use Rattle.std.proofs.Common.{arith, ap, length}
use Rattle.mg_defs.proofs.StandCodes.{stream-code}
use Rattle.mg_model.proofs.laws.codes_are_models.Goals as goal

pub returns : goal.returns
returns c = λ kind collection it is few. stream-code kind collection it is (omega (arith, ap length is.pieces, few))
