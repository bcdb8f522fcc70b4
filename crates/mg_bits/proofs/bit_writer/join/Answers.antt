use Rattle.mg_bits.proofs.BitPieces.{small_power}
use Rattle.mg_defs.proofs.BitLaws.{high_below}
use Rattle.mg_bits.proofs.bit_writer.join.Goals as goal

pub returns-clause-below : goal.returns-clause-below
returns-clause-below c = rw (small_power c.args.size c.requires.size) (high_below c.args.count c.args.size c.args.rest c.args.bits c.requires.high c.requires.low)
