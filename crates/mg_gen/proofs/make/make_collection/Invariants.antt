use Rattle.std.proofs.Common.{◌+◌, ◌≤◌, length}
use Rattle.mg_defs.specs.Generator.{repeated, mail}
use Rattle.mg_gen.specs.Grew.{Handed}
use Rattle.mg_gen.proofs.make.make_collection.Given as goal

abbrev pub invariant-loop : goal.invariant-loop
invariant-loop g l = record {
  handed : Handed (g.O.Sink.written l.fn.out) (g.O.Sink.written l.out) l.writer (repeated l.counter mail l.seed);
  room : length l.writer.text.items + 867 ≤ 8192;
  faults : g.O.Sink.faults l.fn.out ≤ g.O.Sink.faults l.out;
  lacks : g.O.Sink.lacks l.fn.out ≤ g.O.Sink.lacks l.out;
}
