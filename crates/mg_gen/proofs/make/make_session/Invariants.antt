use Rattle.std.proofs.Common.{◌*◌, ◌≤◌, length}
use Rattle.mg_defs.specs.Generator.{repeated, four_queries}
use Rattle.mg_gen.specs.Grew.{Grew}
use Rattle.mg_gen.proofs.make.make_session.Given as goal

abbrev pub invariant-loop : goal.invariant-loop
invariant-loop g l = record {
  made : Grew l.initial.writer l.writer (repeated l.counter four_queries);
  room : length l.writer.text.items ≤ 167 * l.counter;
}
