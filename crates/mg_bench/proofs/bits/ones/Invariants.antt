use Rattle.std.proofs.Common.{◌≤◌, ◌+◌}
use Rattle.mg_bench.proofs.bits.ones.Given as goal

abbrev pub invariant-loop-done : goal.invariant-loop-done
invariant-loop-done g l = record {
  fits : g.F.Feed.fits l.reader.feed (g.F.Feed.device l.dev).files;
  place : l.reader.place ≤ l.fn.reader.place + l.done;
}
