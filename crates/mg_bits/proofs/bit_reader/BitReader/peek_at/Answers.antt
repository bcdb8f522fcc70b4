use Rattle.std.proofs.Common.{arith, ◌/◌, ◌%◌, ◌*◌}
use Rattle.mg_bits.proofs.EightBytes.{holds_inside, told_middle}
use Rattle.mg_bits.proofs.bit_reader.BitReader.peek_at.Goals as goal

pub returns-in-Some-clause-told : goal.returns-in-Some-clause-told
returns-in-Some-clause-told g c = rw (← c.self.view_is) (λ files fits.
    rw c.middle.ensures.value
    (told_middle _ (c.args.place / 8) (c.args.place % 8) c.args.place c.in-Some.word (omega arith) (omega arith) (c.in-Some.ensures.told files fits)))

pub returns-in-Some-clause-held : goal.returns-in-Some-clause-held
returns-in-Some-clause-held g c =
    rw (← c.self.view_is) (holds_inside (g.F.Feed.feeding c.self.inside.feed) (8 * (c.args.place / 8)) c.args.place 64 57
    (g.met.F.Feed.whole_pages c.self.inside.feed).some (omega arith) (omega arith) (omega arith) c.in-Some.ensures.held)
