use Rattle.mg_bits.proofs.EightBytes.{bits_of_word}
use Rattle.mg_bits.proofs.window.word_of.Goals as goal

pub returns : goal.returns
returns c = bits_of_word c.args.eight.now c.from_be_bytes.result c.told-eight c.fits-eight c.from_be_bytes.ensures
