use Rattle.std.proofs.Common.{arith}
use Rattle.mg_bits.specs.Reader.{AnswersBit}
use Rattle.mg_bits.proofs.ReadLaws.{from_same, next_held}
use Rattle.mg_bits.proofs.bit_reader.BitReader.bit.Goals as goal

pub returns-in-Some : goal.returns-in-Some
returns-in-Some g c =
    let e = c.in-Some.ensures in
    next_held (omega arith) c.requires.fits e.held e.feed e.some (e.told _ c.requires.fits)

pub returns-in-None : goal.returns-in-None
returns-in-None g c = from_same (AnswersBit c.bit_of_feed.result) c.in-None.ensures.none c.bit_of_feed.ensures
