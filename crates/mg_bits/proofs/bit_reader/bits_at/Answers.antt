use Rattle.std.proofs.Common.{arith}
use Rattle.mg_bits.proofs.Keeping.{holds_byte, told_byte}
use Rattle.mg_bits.proofs.bit_reader.bits_at.Goals as goal

pub returns-in-Some-held_byte : goal.returns-in-Some-held_byte
returns-in-Some-held_byte g c = record {
  few = omega arith;
  are = λ some. record {
    held = holds_byte _ c.args.at c.in-Some-held_byte.ensures.held;
    told = λ files fits. rw c.from.ensures (told_byte _ c.args.at c.in-Some-held_byte.byte (c.in-Some-held_byte.ensures.told files fits));
  };
}
