use Rattle.std.proofs.Common.{◌+◌, ◌*◌, ◌≤◌, length}
use Rattle.mg_defs.specs.Generator.{repeated, sentence}
use Rattle.mg_gen.specs.Grew.{Grew}
use Rattle.mg_gen.proofs.writer.Writer.sentences.Given as goal

abbrev pub invariant-loop : goal.invariant-loop
invariant-loop l = record {
  made : Grew l.initial.self l.self (repeated l.counter sentence);
  room : length l.self.text.items ≤ length l.initial.self.text.items + 132 * l.counter;
}
