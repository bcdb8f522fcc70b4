use Rattle.std.proofs.Common.{arith, add-zero}
use Rattle.mg_bits.proofs.BitPieces.{small_power, within_word}
use Rattle.mg_bits.proofs.bit_reader.join.Goals as goal

pub overflow_mul-result : goal.overflow_mul-result
overflow_mul-result c = rw (small_power c.args.size (omega (arith, c.requires.size)))
    (rw add-zero at (within_word c.args.done c.args.size c.args.value 0 c.requires.fits c.requires.high (omega arith)))

pub overflow_add-result : goal.overflow_add-result
overflow_add-result c = rw (small_power c.args.size (omega (arith, c.requires.size)))
    (within_word c.args.done c.args.size c.args.value c.args.more c.requires.fits c.requires.high c.requires.low)
