use Rattle.std.proofs.Common.{arith, add-zero}
use Rattle.mg_bits.proofs.Ranges.{read_none, read_step}
use Rattle.mg_defs.proofs.BitLaws.{high_below}
use Rattle.mg_bits.proofs.ReadLaws.{number_read, number_refused}
use Rattle.mg_bits.proofs.Told.{same_told, told_more, told_nothing}
use Rattle.mg_bits.proofs.bit_reader.BitReader.bits_by_bytes.Goals as goal

pub loop-done-init : goal.loop-done-init
loop-done-init g c = record {
  fits = c.requires.fits;
  done = omega arith;
  place = omega arith;
  value = omega arith;
  told = told_nothing _ c.args.self.now.place;
  read = rw add-zero (read_none _ _ c.args.self.now.place);
}

pub loop-done-preserved : goal.loop-done-preserved
loop-done-preserved g c =
    let e = c.in-Ok.ensures in
    record {
      fits = e.next.fits;
      done = omega arith;
      place = omega (arith, e.next.place);
      value = rw c.join-value.ensures (high_below c.loop-done.done c.min-size.result c.loop-done.value c.in-Ok.more c.loop-done.invariant.value e.below);
      told = rw c.join-value.ensures
          (told_more ((g.F.Feed.feeding c.args.self.now.feed).source (g.F.Feed.device c.args.dev.now).files) c.args.self.now.place c.loop-done.done c.min-size.result
          c.loop-done.value c.in-Ok.more e.below c.loop-done.invariant.told
          (rw (same_told _ _ _ _ c.loop-done.invariant.read.calm, c.loop-done.invariant.place) at e.next.told));
      read = read_step _ _ _ _ _ _ c.args.self.now.place c.loop-done.done c.min-size.result c.loop-done.self.place
          (g.met.F.Feed.whole_pages c.args.self.now.feed).some c.loop-done.invariant.place
          c.loop-done.invariant.read e.next.read;
    }

pub returns-in-Err : goal.returns-in-Err
returns-in-Err g c =
    let same = c.at_start.ensures in
    number_refused c.loop-done.done (g.met.F.Feed.whole_pages c.args.self.now.feed).some c.loop-done.invariant.place (omega arith) (omega arith) c.loop-done.invariant.read
    c.in-Err.ensures.next c.in-Err.ensures.keeps c.seek.ensures.feed (rw c.place-start.ensures at c.seek.ensures.place) (rw c.place-start.ensures at same)

pub returns : goal.returns
returns g c =
    let i = c.loop-done.invariant in
    number_read c.loop-done.done (omega (arith, i.done, c.loop-done-test.false)) i.fits i.place i.value i.told i.read
