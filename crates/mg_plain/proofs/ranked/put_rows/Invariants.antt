use Rattle.std.proofs.Common.{◌≤◌, take}
use Rattle.mg_reply.specs.Pending.{Passed}
use Rattle.mg_plain.specs.RankedRows.{rows_text}
use Rattle.mg_plain.proofs.ranked.put_rows.Given as goal

abbrev pub invariant-loop-row : goal.invariant-loop-row
invariant-loop-row g l = record {
  passed : Passed (g.O.Sink.written l.fn.out) (g.O.Sink.written l.out) l.fn.pending l.pending (rows_text l.bytes l.mode (take l.row-index l.rows));
  faults : g.O.Sink.faults l.fn.out ≤ g.O.Sink.faults l.out;
  lacks : g.O.Sink.lacks l.fn.out ≤ g.O.Sink.lacks l.out;
}
