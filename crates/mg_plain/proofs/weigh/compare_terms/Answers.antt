use Rattle.std.proofs.Common.{arith}
use Rattle.mg_plain.proofs.WordLaws.{left_longer, right_longer}
use Rattle.mg_plain.proofs.weigh.compare_terms.Goals as goal

pub returns-then-i-right : goal.returns-then-i-right
returns-then-i-right c = left_longer c.args.left.now c.args.right.now c.loop-i.i _ (omega arith) (omega arith) c.loop-i.invariant.is

pub returns-then-left-right : goal.returns-then-left-right
returns-then-left-right c = right_longer c.args.left.now c.args.right.now c.loop-i.i _ (omega arith) (omega arith) c.loop-i.invariant.is
