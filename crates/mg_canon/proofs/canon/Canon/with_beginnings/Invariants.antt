use Rattle.std.proofs.Common.{◌≡◌, length}
use Rattle.mg_canon.specs.Tables.{AreBeginnings}
use Rattle.mg_canon.proofs.canon.Canon.with_beginnings.Given as goal

abbrev pub invariant-loop-front : goal.invariant-loop-front
invariant-loop-front l = record {
  size : length l.beginnings.items ≡ l.front;
  entries : AreBeginnings l.fn.self l.width l.beginnings.items;
}
