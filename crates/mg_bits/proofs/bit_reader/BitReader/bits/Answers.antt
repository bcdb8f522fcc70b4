use Rattle.std.proofs.Common.{arith, ◌-◌}
use Rattle.mg_bits.proofs.EightBytes.{holds_inside, read_held, told_first}
use Rattle.mg_bits.proofs.Told.{told_end_ok}
use Rattle.mg_bits.proofs.bit_reader.BitReader.bits.Goals as goal

pub returns-in-Some : goal.returns-in-Some
returns-in-Some g c =
    let place = c.args.self.now.place in
    rw c.seek.ensures.feed
    (record {
      fits = c.requires.fits;
      read = read_held _ _ place c.args.count (omega arith)
          (holds_inside _ place place 57 c.args.count (g.met.F.Feed.whole_pages c.args.self.now.feed).some (omega arith) (omega arith) (omega arith) c.in-Some.ensures.held);
      part = tt;
      place = omega (arith, c.seek.ensures.place, c.place.ensures, c.from.ensures);
      below = c.first_of.ensures.below;
      told = rw c.first_of.ensures.value
          (told_first ((g.F.Feed.feeding c.args.self.now.feed).source (g.F.Feed.device c.args.dev.now).files) place 57 c.args.count
          (57 - c.args.count) c.in-Some.next (omega arith) (c.in-Some.ensures.told _ c.requires.fits));
      end = told_end_ok _ c.first_of.result (g.F.Feed.feeding c.args.self.now.feed).page place c.args.count (g.F.Feed.feeding c.args.self.now.feed).held;
      cause = tt;
    })

pub returns-in-None : goal.returns-in-None
returns-in-None g c = c.bits_by_bytes-in-None.ensures
