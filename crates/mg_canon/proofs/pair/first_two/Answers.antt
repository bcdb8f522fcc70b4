use Rattle.std.proofs.Common.{arith}
use Rattle.mg_canon.proofs.Pairs.{too_long}
use Rattle.mg_canon.proofs.pair.first_two.Goals as goal

pub returns-then-size_in-gt57 : goal.returns-then-size_in-gt57
returns-then-size_in-gt57 c =
    let one = c.first_of-one.ensures.found (omega arith) in
    let two = c.first_of-two.ensures.found (omega arith) in
    record { one = tt; two = tt; within = tt; none = λ short. too_long one two (omega arith) short }
