use Rattle.mg_reply.proofs.CallerLemmas.{printed_in_turn, read_failed}
use Rattle.mg_session.proofs.StopLaws.{ended}
use Rattle.mg_session.proofs.serving.answer_lines.Goals as goal

pub returns-in-Ok : goal.returns-in-Ok
returns-in-Ok g c = record {
  served = (
    c.serve_lines.new.answerer,
    record {
      all = λ reply given answers told. c.in-Ok.ensures.all reply answers given told;
      prefix = λ reply given answers told. c.in-Ok.ensures.prefix reply answers given told;
      printed = λ given told. c.in-Ok.ensures.printed given told;
      left = λ given told. c.in-Ok.ensures.left given told;
      within = λ given told. c.in-Ok.ensures.within given told;
      in_turn = λ reply answers. printed_in_turn (c.in-Ok.ensures.in_turn reply answers);
      broken = λ reply given answers told is. absurd cc;
      answered_broken = λ given told is. absurd cc;
      answered = c.in-Ok.ensures.answered;
      cause = tt;
    },
  );
}

pub returns : goal.returns
returns g c = record {
  served = (
    c.serve_lines.new.answerer,
    record {
      all = λ reply given answers told. tt;
      prefix = λ reply given answers told. c.in-Err.ensures.prefix reply answers given told;
      printed = λ given told. tt;
      left = λ given told. tt;
      within = λ given told. tt;
      in_turn = λ reply answers. printed_in_turn (c.in-Err.ensures.in_turn reply answers);
      broken = rw c.fault_of.ensures (λ reply given answers told is. c.in-Err.ensures.broken reply answers (read_failed _ is) given told);
      answered_broken = rw c.fault_of.ensures (λ given told is. c.in-Err.ensures.answered_broken (read_failed _ is) given told);
      answered = c.in-Err.ensures.answered;
      cause = rw c.fault_of.ensures (ended c.in-Err.error _ _ _ _ c.in-Err.ensures.cause);
    },
  );
}
