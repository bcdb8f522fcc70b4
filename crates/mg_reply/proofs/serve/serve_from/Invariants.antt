use Rattle.std.proofs.Common.{◌-◌, ◌≤◌, ℕ, List}
use Rattle.mg_defs.specs.declared.session.Settings.{Settings}
use Rattle.mg_dev.specs.Streams.{prepended}
use Rattle.mg_defs.specs.Limits.{input_limit}
use Rattle.mg_reply.specs.PrintedLines.{AnsweredLines}
use Rattle.mg_reply.specs.Served.{Served, Counted}
use Rattle.mg_reply.proofs.serve.serve_from.Given as goal

abbrev pub invariant-lines : goal.invariant-lines
invariant-lines g l = record {
  fits : g.A.Answerer.fits (g.A.Answerer.state l.answerer l.dev);
  printed : AnsweredLines l.fn.hearing g.A.Answerer.after (g.A.Answerer.prints (g.A.Answerer.state l.fn.answerer l.fn.dev))
      (g.A.Answerer.state l.fn.answerer l.fn.dev) (g.A.Answerer.state l.answerer l.dev) (g.I.Source.left l.fn.input)
      (prepended l.reader.held (g.I.Source.left l.input)) (g.O.Sink.written l.fn.out) (g.O.Sink.written l.out) l.now;
  served : (reply : Settings → List ℕ → List ℕ) → g.A.Answerer.answers (g.A.Answerer.state l.fn.answerer l.fn.dev) reply →
      Served l.fn.hearing g.A.Answerer.after (g.A.Answerer.state l.fn.answerer l.fn.dev) (g.A.Answerer.state l.answerer l.dev) reply
      (g.I.Source.left l.fn.input) (prepended l.reader.held (g.I.Source.left l.input)) (g.O.Sink.written l.fn.out) (g.O.Sink.written l.out) l.now;
  counted : Counted (g.I.Source.left l.fn.input) (prepended l.reader.held (g.I.Source.left l.input)) l.reader.used;
  used : l.reader.used ≤ input_limit;
  faults : g.I.Source.faults l.fn.input ≤ g.I.Source.faults l.input;
  out_faults : g.O.Sink.faults l.fn.out ≤ g.O.Sink.faults l.out;
}

abbrev pub decreases-lines : goal.decreases-lines
decreases-lines g l = input_limit - l.reader.used
