use Rattle.mg_bits.proofs.PutLaws.{ends, puts_last, puts_whole}
use Rattle.mg_bits.proofs.bit_writer.BitWriter.finish.Goals as goal

pub flush-requires : goal.flush-requires
flush-requires g c = record { whole = puts_whole c.bits_to_byte-size.ensures c.in-Ok.ensures }

-- the last byte is refused
pub returns-in-Err : goal.returns-in-Err
returns-in-Err g c = ends c.requires.holds (rw c.bits_to_byte-size.ensures at c.in-Err.ensures) tt

-- what is held goes out
pub returns-in-Ok : goal.returns-in-Ok
returns-in-Ok g c = ends c.requires.holds (puts_last c.bits_to_byte-size.ensures c.in-Ok.ensures c.flush.ensures.put) c.flush.ensures.nothing
