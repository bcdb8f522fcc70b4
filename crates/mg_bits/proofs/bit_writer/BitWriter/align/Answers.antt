use Rattle.mg_bits.proofs.PutLaws.{fills}
use Rattle.mg_bits.proofs.bit_writer.BitWriter.align.Goals as goal

pub returns : goal.returns
returns g c = fills c.requires.holds c.bits_to_byte-size.ensures c.put_piece.ensures
