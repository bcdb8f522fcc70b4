use Rattle.std.proofs.Common.{arith}
use Rattle.std.proofs.Math.Nat.{mod-eq_of_lt}
use Rattle.mg_codes.proofs.ShortWalk.{shifted_small}
use Rattle.mg_codes.proofs.remainder.shifted.Goals as goal

pub returns-clause-value : goal.returns-clause-value
returns-clause-value c = mod-eq_of_lt (omega (arith, shifted_small c.args.high c.args.done c.args.more c.requires.high c.requires.more))

pub returns-clause-small : goal.returns-clause-small
returns-clause-small c = rw (returns-clause-value c) (shifted_small c.args.high c.args.done c.args.more c.requires.high c.requires.more)
