use Rattle.std.proofs.Common.{arith, ◌-◌}
use Rattle.mg_bits.proofs.EightBytes.{first_below}
use Rattle.mg_bits.proofs.bit_reader.first_of.Goals as goal

pub returns-clause-below : goal.returns-clause-below
returns-clause-below c = first_below 57 c.args.count (57 - c.args.count) c.args.next (omega arith) c.requires.next
