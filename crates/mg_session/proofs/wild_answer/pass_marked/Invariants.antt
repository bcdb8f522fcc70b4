use Rattle.std.proofs.Common.{◌≡◌, ◌≤◌, ◌-◌, length}
use Rattle.mg_reply.specs.Pending.{Passed}
use Rattle.mg_session.specs.DocumentSets.{marked_to}
use Rattle.mg_session.proofs.WildTextLaws.{rows_to}
use Rattle.mg_session.proofs.wild_answer.pass_marked.Given as goal

abbrev pub invariant-rows : goal.invariant-rows
invariant-rows g l = record {
  most : l.last ≤ l.marked.all;
  few : l.total ≤ l.last;
  size : length (marked_to l.marked l.last) ≡ l.total;
  output : g.O.Sink.faults l.fn.out ≤ g.O.Sink.faults l.out;
  lacks : g.O.Sink.lacks l.fn.out ≤ g.O.Sink.lacks l.out;
  passed : Passed (g.O.Sink.written l.fn.out) (g.O.Sink.written l.out) l.fn.pending l.pending (rows_to l.marked l.last);
}

abbrev pub decreases-rows : goal.decreases-rows
decreases-rows g l = l.marked.all - l.last
