use Rattle.std.proofs.Common.{◌+◌, ◌*◌, ◌≤◌, length}
use Rattle.mg_defs.specs.Generator.{repeated, made_both, separator, pick}
use Rattle.mg_gen.specs.Grew.{Grew}
use Rattle.mg_gen.proofs.writer.Writer.sentence.Given as goal

abbrev pub invariant-loop : goal.invariant-loop
invariant-loop l = record {
  made : Grew l.initial.self l.self (repeated l.counter (made_both separator pick));
  room : length l.self.text.items ≤ length l.initial.self.text.items + 11 * l.counter;
}
