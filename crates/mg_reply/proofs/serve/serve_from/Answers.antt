use Rattle.std.proofs.Common.{arith, refl, sym, ◌∙◌}
use Rattle.mg_dev.specs.StreamLaws.{prepended-nil}
use Rattle.mg_defs.proofs.SessionLaws.{gives_long}
use Rattle.mg_reply.proofs.ServedLaws.{served_start, served_line, served_part, served_some, served_all, served_broken, answered_gives, answered_quits, answered_part, all_grew, counted_start, counted_line, counted_past, counted_all, counted_quit, left_at_end, left_at_quit, long_stays, quit_is, cut_short, turn_rests, turn_long, turn_answers, ahead_broken, ahead_past, ahead_none}
use Rattle.mg_reply.proofs.PrintedLaws.{goes_long, goes_short, last_asked, lines_all, lines_asked, lines_broken, lines_line, lines_quit, lines_start, rule_back}
use Rattle.mg_reply.proofs.serve.serve_from.Goals as goal

pub lines-init : goal.lines-init
lines-init g c = rw c.requires.unread (record {
  fits = c.requires.fits;
  printed = rw (prepended-nil, c.start-now.ensures) (lines_start _ _ _ _ _ _ (g.met.A.Answerer.after_none (g.A.Answerer.state c.args.answerer.now c.args.dev.now)));
  served = λ reply answers. rw (prepended-nil, c.start-now.ensures) (served_start _ _ _ _ _ _ (g.met.A.Answerer.after_none (g.A.Answerer.state c.args.answerer.now c.args.dev.now)));
  counted = rw prepended-nil (counted_start _);
  used = omega arith;
  faults = omega arith;
  out_faults = omega arith;
})

pub returns-in-Err-Read-clause-prefix : goal.returns-in-Err-Read-clause-prefix
returns-in-Err-Read-clause-prefix g c = λ reply answers all told. served_some (c.lines.invariant.served reply answers) all told

pub returns-in-Err-Read-clause-answered : goal.returns-in-Err-Read-clause-answered
returns-in-Err-Read-clause-answered g c = lines_asked c.lines.invariant.printed

pub returns-in-Err-TooMuch-clause-prefix : goal.returns-in-Err-TooMuch-clause-prefix
returns-in-Err-TooMuch-clause-prefix g c = λ reply answers all told. served_some (c.lines.invariant.served reply answers) all told

pub returns-in-Err-TooMuch-clause-answered : goal.returns-in-Err-TooMuch-clause-answered
returns-in-Err-TooMuch-clause-answered g c = lines_asked c.lines.invariant.printed

pub returns-in-Err-TooMuch-clause-cause : goal.returns-in-Err-TooMuch-clause-cause
returns-in-Err-TooMuch-clause-cause g c = λ all told.
    let line = rw c.in-Err-TooMuch.field-0-is at c.in-Err-TooMuch.ensures.line in
    counted_past _ _ _ _ _ c.lines.invariant.counted line.1 line.2 all told

pub returns-in-Ok-End-clause-all : goal.returns-in-Ok-End-clause-all
returns-in-Ok-End-clause-all g c = λ reply answers all told.
    let line = rw c.in-Ok-End.field-0-is at c.in-Ok-End.ensures.line in
    served_all (c.lines.invariant.served reply answers) line.0 all told

pub returns-in-Ok-End-clause-prefix : goal.returns-in-Ok-End-clause-prefix
returns-in-Ok-End-clause-prefix g c = λ reply answers all told. served_some (c.lines.invariant.served reply answers) all told

pub returns-in-Ok-End-clause-left : goal.returns-in-Ok-End-clause-left
returns-in-Ok-End-clause-left g c = λ all told.
    let line = rw c.in-Ok-End.field-0-is at c.in-Ok-End.ensures.line in
    left_at_end _ _ _ _ (rw (← line.1) at c.lines.invariant.counted) (rw (← line.1) at line.0) all told

pub returns-in-Ok-End-clause-within : goal.returns-in-Ok-End-clause-within
returns-in-Ok-End-clause-within g c = λ all told.
    let line = rw c.in-Ok-End.field-0-is at c.in-Ok-End.ensures.line in
    counted_all _ _ _ c.lines.invariant.counted line.0 c.lines.invariant.used all told

pub returns-in-Ok-End-clause-answered : goal.returns-in-Ok-End-clause-answered
returns-in-Ok-End-clause-answered g c = lines_asked c.lines.invariant.printed

pub lines-preserved-in-Ok : goal.lines-preserved-in-Ok
lines-preserved-in-Ok g c =
    let line = rw c.in-Ok-TooLong.field-0-is at c.in-Ok-TooLong.ensures.line in
    record {
      fits = c.lines.invariant.fits;
      printed = lines_line g.met.A.Answerer.after_more c.lines.invariant.printed line.2
          (goes_long _ _ _ line.3 c.in-Ok.ensures.content) (g.met.A.Answerer.after_none (g.A.Answerer.state c.lines.answerer c.lines.dev));
      served = λ reply answers. served_line g.met.A.Answerer.after_more (c.lines.invariant.served reply answers) line.2
          (gives_long _ _ _ line.0 line.3) (g.met.A.Answerer.after_none (g.A.Answerer.state c.lines.answerer c.lines.dev)) c.in-Ok.ensures.content;
      counted = counted_line _ _ _ _ _ _ _ c.lines.invariant.counted line.2 (long_stays line.0 line.3) line.4;
      used = line.5;
      faults = omega arith;
      out_faults = omega arith;
    }

pub returns-in-Err-clause-prefix : goal.returns-in-Err-clause-prefix
returns-in-Err-clause-prefix g c = λ reply answers all told.
    let line = rw c.in-Ok-TooLong.field-0-is at c.in-Ok-TooLong.ensures.line in
    served_part (c.lines.invariant.served reply answers) line.2 (gives_long _ _ _ line.0 line.3) c.in-Err.ensures.content all told

pub returns-in-Err-clause-answered : goal.returns-in-Err-clause-answered
returns-in-Err-clause-answered g c = lines_asked c.lines.invariant.printed

pub serve_line-requires-clause-short : goal.serve_line-requires-clause-short
serve_line-requires-clause-short g c =
    let line = rw c.in-Ok-Line.field-0-is at c.in-Ok-Line.ensures.line in
    cut_short _ _ c.line.ensures line.2

pub returns-in-Ok-true-clause-all : goal.returns-in-Ok-true-clause-all
returns-in-Ok-true-clause-all g c = λ reply answers all told.
    let line = rw c.in-Ok-Line.field-0-is at c.in-Ok-Line.ensures.line in
    answered_quits (c.lines.invariant.served reply answers) line.1 (record { same = refl; cut_is = c.line.ensures; short = line.2 })
    (sym c.in-Ok-true.ensures.stops ∙ c.in-Ok-true.field-0-test)
    (c.in-Ok-true.ensures.text reply (g.met.A.Answerer.same_reply _ _ _ reply (c.lines.invariant.served reply answers).after answers)) all told

pub returns-in-Ok-true-clause-prefix : goal.returns-in-Ok-true-clause-prefix
returns-in-Ok-true-clause-prefix g c = λ reply answers all told.
    let line = rw c.in-Ok-Line.field-0-is at c.in-Ok-Line.ensures.line in
    all_grew _ _ _ (answered_quits (c.lines.invariant.served reply answers) line.1 (record { same = refl; cut_is = c.line.ensures; short = line.2 })
    (sym c.in-Ok-true.ensures.stops ∙ c.in-Ok-true.field-0-test)
    (c.in-Ok-true.ensures.text reply (g.met.A.Answerer.same_reply _ _ _ reply (c.lines.invariant.served reply answers).after answers)) all told)

pub returns-in-Ok-true-clause-left : goal.returns-in-Ok-true-clause-left
returns-in-Ok-true-clause-left g c = λ all told.
    let line = rw c.in-Ok-Line.field-0-is at c.in-Ok-Line.ensures.line in
    left_at_quit _ _ _ _ _ _ _ c.lines.invariant.counted line.1 (quit_is _ _ _ _ line.2 c.line.ensures c.in-Ok-true.ensures.stops ∙ c.in-Ok-true.field-0-test) all told

pub returns-in-Ok-true-clause-within : goal.returns-in-Ok-true-clause-within
returns-in-Ok-true-clause-within g c = λ all told.
    let line = rw c.in-Ok-Line.field-0-is at c.in-Ok-Line.ensures.line in
    counted_quit _ _ _ _ _ _ _ c.lines.invariant.counted line.1 (quit_is _ _ _ _ line.2 c.line.ensures c.in-Ok-true.ensures.stops ∙ c.in-Ok-true.field-0-test) line.3 line.4 all told

pub returns-in-Ok-true-clause-answered : goal.returns-in-Ok-true-clause-answered
returns-in-Ok-true-clause-answered g c =
    let line = rw c.in-Ok-Line.field-0-is at c.in-Ok-Line.ensures.line in
    last_asked g.met.A.Answerer.after_more c.lines.invariant.printed line.1 line.2 c.line.ensures c.in-Ok-true.ensures.after

pub lines-preserved : goal.lines-preserved
lines-preserved g c =
    let line = rw c.in-Ok-Line.field-0-is at c.in-Ok-Line.ensures.line in
    record {
      fits = c.in-Ok-false.ensures.fits;
      printed = rw c.in-Ok-false.ensures.settings (lines_line g.met.A.Answerer.after_more c.lines.invariant.printed line.1
          (goes_short _ _ _ _ line.2 c.line.ensures (sym c.in-Ok-false.ensures.stops ∙ c.in-Ok-false.field-0-test)
          (rule_back _ _ _ _ _ (λ question w v. g.met.A.Answerer.same_prints _ _ _ question w v c.lines.invariant.printed.after) c.in-Ok-false.ensures.printed))
          c.in-Ok-false.ensures.after);
      served = λ reply answers. rw c.in-Ok-false.ensures.settings (served_line g.met.A.Answerer.after_more (c.lines.invariant.served reply answers) line.1
          (answered_gives _ reply reply _ _ _ (record { same = refl; cut_is = c.line.ensures; short = line.2 }) (sym c.in-Ok-false.ensures.stops ∙ c.in-Ok-false.field-0-test))
          c.in-Ok-false.ensures.after (c.in-Ok-false.ensures.text reply (g.met.A.Answerer.same_reply _ _ _ reply (c.lines.invariant.served reply answers).after answers)));
      counted = counted_line _ _ _ _ _ _ _ c.lines.invariant.counted line.1 (quit_is _ _ _ _ line.2 c.line.ensures c.in-Ok-false.ensures.stops ∙ c.in-Ok-false.field-0-test) line.3;
      used = line.4;
      faults = omega arith;
      out_faults = omega arith;
    }

pub returns-in-Err-serve_line-clause-prefix : goal.returns-in-Err-serve_line-clause-prefix
returns-in-Err-serve_line-clause-prefix g c = λ reply answers all told.
    let line = rw c.in-Ok-Line.field-0-is at c.in-Ok-Line.ensures.line in
    answered_part (c.lines.invariant.served reply answers) line.1
    (record { same = refl; cut_is = c.line.ensures; short = line.2 })
    (c.in-Err-serve_line.ensures.text reply (g.met.A.Answerer.same_reply _ _ _ reply (c.lines.invariant.served reply answers).after answers)) all told

pub returns-in-Err-serve_line-clause-answered : goal.returns-in-Err-serve_line-clause-answered
returns-in-Err-serve_line-clause-answered g c =
    let line = rw c.in-Ok-Line.field-0-is at c.in-Ok-Line.ensures.line in
    last_asked g.met.A.Answerer.after_more c.lines.invariant.printed line.1 line.2 c.line.ensures c.in-Err-serve_line.ensures.after

pub returns-in-Err-Read-clause-in_turn : goal.returns-in-Err-Read-clause-in_turn
returns-in-Err-Read-clause-in_turn g c = λ reply answers.
    turn_rests (g.met.A.Answerer.after_none (g.A.Answerer.state c.lines.answerer c.lines.dev)) (c.lines.invariant.served reply answers)
    (ahead_broken _ (rw c.in-Err-Read.field-0-is at c.in-Err-Read.ensures.line) c.in-Err-Read.ensures.few)

pub returns-in-Err-TooMuch-clause-in_turn : goal.returns-in-Err-TooMuch-clause-in_turn
returns-in-Err-TooMuch-clause-in_turn g c = λ reply answers.
    turn_rests (g.met.A.Answerer.after_none (g.A.Answerer.state c.lines.answerer c.lines.dev)) (c.lines.invariant.served reply answers)
    (ahead_past _ (rw c.in-Err-TooMuch.field-0-is at c.in-Err-TooMuch.ensures.line).1 c.in-Err-TooMuch.ensures.few)

pub returns-in-Ok-End-clause-in_turn : goal.returns-in-Ok-End-clause-in_turn
returns-in-Ok-End-clause-in_turn g c = λ reply answers.
    turn_rests (g.met.A.Answerer.after_none (g.A.Answerer.state c.lines.answerer c.lines.dev)) (c.lines.invariant.served reply answers)
    (ahead_none _ (rw c.in-Ok-End.field-0-is at c.in-Ok-End.ensures.line).1 c.in-Ok-End.ensures.few)

pub returns-in-Err-clause-in_turn : goal.returns-in-Err-clause-in_turn
returns-in-Err-clause-in_turn g c = λ reply answers.
    let line = rw c.in-Ok-TooLong.field-0-is at c.in-Ok-TooLong.ensures.line in
    turn_long _ (g.met.A.Answerer.after_none (g.A.Answerer.state c.lines.answerer c.lines.dev))
    (c.lines.invariant.served reply answers) line.2 c.in-Ok-TooLong.ensures.few line.3 c.in-Err.ensures.content

pub returns-in-Ok-true-clause-in_turn : goal.returns-in-Ok-true-clause-in_turn
returns-in-Ok-true-clause-in_turn g c = λ reply answers.
    let line = rw c.in-Ok-Line.field-0-is at c.in-Ok-Line.ensures.line in
    let served = c.lines.invariant.served reply answers in
    turn_answers _ served line.1 c.in-Ok-Line.ensures.few (record { same = refl; cut_is = c.line.ensures; short = line.2 })
    c.in-Ok-true.ensures.after (all_grew _ _ _ (c.in-Ok-true.ensures.text reply (g.met.A.Answerer.same_reply _ _ _ reply served.after answers)))

pub returns-in-Err-serve_line-clause-in_turn : goal.returns-in-Err-serve_line-clause-in_turn
returns-in-Err-serve_line-clause-in_turn g c = λ reply answers.
    let line = rw c.in-Ok-Line.field-0-is at c.in-Ok-Line.ensures.line in
    let served = c.lines.invariant.served reply answers in
    turn_answers _ served line.1 c.in-Ok-Line.ensures.few (record { same = refl; cut_is = c.line.ensures; short = line.2 })
    c.in-Err-serve_line.ensures.after (c.in-Err-serve_line.ensures.text reply (g.met.A.Answerer.same_reply _ _ _ reply served.after answers))

pub returns-in-Ok-End-clause-printed : goal.returns-in-Ok-End-clause-printed
returns-in-Ok-End-clause-printed g c = λ all told.
    let line = rw c.in-Ok-End.field-0-is at c.in-Ok-End.ensures.line in
    lines_all c.lines.invariant.printed line.0 all told

pub returns-in-Ok-true-clause-printed : goal.returns-in-Ok-true-clause-printed
returns-in-Ok-true-clause-printed g c = λ all told.
    let line = rw c.in-Ok-Line.field-0-is at c.in-Ok-Line.ensures.line in
    lines_quit _ c.lines.invariant.printed line.1 line.2 c.line.ensures (sym c.in-Ok-true.ensures.stops ∙ c.in-Ok-true.field-0-test)
    (rule_back _ _ _ _ _ (λ question w v. g.met.A.Answerer.same_prints _ _ _ question w v c.lines.invariant.printed.after) c.in-Ok-true.ensures.printed) all told

pub returns-in-Err-Read-clause-broken : goal.returns-in-Err-Read-clause-broken
returns-in-Err-Read-clause-broken g c = λ reply answers is all told.
    served_broken _ _ (c.lines.invariant.served reply answers) (rw c.in-Err-Read.field-0-is at c.in-Err-Read.ensures.line)
    ((rw c.in-Err-Read.field-0-is at c.in-Err-Read.ensures.broken) refl) all told

pub returns-in-Err-Read-clause-answered_broken : goal.returns-in-Err-Read-clause-answered_broken
returns-in-Err-Read-clause-answered_broken g c = λ is all told.
    lines_broken _ _ c.lines.invariant.printed (rw c.in-Err-Read.field-0-is at c.in-Err-Read.ensures.line)
    ((rw c.in-Err-Read.field-0-is at c.in-Err-Read.ensures.broken) refl) all told
