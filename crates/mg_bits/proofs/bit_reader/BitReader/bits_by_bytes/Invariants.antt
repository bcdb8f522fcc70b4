use Rattle.std.proofs.Common.{◌≡◌, ◌+◌, ◌-◌, ◌≤◌, ◌<◌, ◌^◌}
use Rattle.mg_bits.specs.Feed.{Read}
use Rattle.mg_defs.specs.Bits.{FromPlace, Begins, digits}
use Rattle.mg_bits.proofs.bit_reader.BitReader.bits_by_bytes.Given as goal

abbrev pub invariant-loop-done : goal.invariant-loop-done
invariant-loop-done g l = record {
  fits : g.F.Feed.fits l.self.feed (g.F.Feed.device l.dev).files;
  done : l.done ≤ l.count;
  place : l.self.place ≡ l.initial.self.place + l.done;
  value : l.value < 2 ^ l.done;
  told : FromPlace ((g.F.Feed.feeding l.initial.self.feed).source (g.F.Feed.device l.initial.dev).files) l.initial.self.place (Begins (digits l.done l.value));
  read : Read (g.F.Feed.feeding l.initial.self.feed) (g.F.Feed.feeding l.self.feed) (g.F.Feed.device l.initial.dev) (g.F.Feed.device l.dev) l.initial.self.place (l.initial.self.place + l.done);
}

abbrev pub decreases-loop-done : goal.decreases-loop-done
decreases-loop-done g l = l.count - l.done
