use Rattle.std.proofs.Common.{arith, ◌∙◌, Ok, Err, nat_eq}
use Rattle.mg_bits.specs.Reader.{AnswersBit}
use Rattle.mg_bits.proofs.ReadLaws.{bit_got, bit_refused, from_same, next_held}
use Rattle.mg_bits.proofs.bit_reader.BitReader.bit_of_feed.Goals as goal

pub returns-in-Some : goal.returns-in-Some
returns-in-Some g c =
    let e = c.in-Some.ensures in
    rw (← c.keep.ensures)
    (next_held (omega arith) (rw (← c.keep.ensures) at c.requires.fits) e.held e.feed e.some (e.told _ (rw (← c.keep.ensures) at c.requires.fits)))

pub returns-in-Err : goal.returns-in-Err
returns-in-Err g c = from_same (AnswersBit (Err c.in-Err.refusal)) (c.in-None.ensures.none ∙ c.keep.ensures) (bit_refused _ c.in-Err.ensures.next)

pub returns-in-Ok : goal.returns-in-Ok
returns-in-Ok g c = from_same (AnswersBit (Ok (nat_eq c.in-Ok.value 1))) (c.in-None.ensures.none ∙ c.keep.ensures) (bit_got _ c.in-Ok.ensures.below c.in-Ok.ensures.next)
