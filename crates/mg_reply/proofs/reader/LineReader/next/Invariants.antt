use Rattle.std.proofs.Common.{◌≡◌, ◌+◌, ◌-◌, ◌≤◌}
use Rattle.mg_dev.specs.Streams.{prepended}
use Rattle.mg_reply.specs.Reading.{Going}
use Rattle.mg_defs.specs.Limits.{input_limit}
use Rattle.mg_reply.proofs.reader.LineReader.next.Given as goal

abbrev pub invariant-bytes : goal.invariant-bytes
invariant-bytes g l = record {
  going : Going (prepended l.fn.self.held (g.I.Source.left l.fn.input)) (prepended l.self-inside.held (g.I.Source.left l.input)) l.self-inside.line l.size;
  used : l.self-inside.used ≡ l.fn.self.used;
  room : l.size ≤ l.room;
  limit : l.fn.self.used + l.room ≡ input_limit;
  faults : g.I.Source.faults l.fn.input ≤ g.I.Source.faults l.input;
}

abbrev pub decreases-bytes : goal.decreases-bytes
decreases-bytes g l = l.room - l.size
