use Rattle.std.proofs.Common.{refl, rules}
use Rattle.mg_top.proofs.TrialSteps.{never_rose, no_sink, put_first, serve_lacks}
use Rattle.mg_top.proofs.comparing.served.Goals as goal

pub returns-in-Ok-serve-clause-replies : goal.returns-in-Ok-serve-clause-replies
returns-in-Ok-serve-clause-replies g c = λ collection built.
    let queried = c.in-Ok-serve.ensures.queried no_sink no_sink in
    put_first _ _ _ c.new-out.ensures.written (queried.served.done collection c.args.questions.now built.stands c.in-Ok.ensures.left refl)

pub returns-in-Ok-serve-clause-asks : goal.returns-in-Ok-serve-clause-asks
returns-in-Ok-serve-clause-asks g c = record {
  files = (c.in-Ok-serve.ensures.queried no_sink no_sink).served.files;
  cause = λ collection built. tt;
  later = search rules;
}

pub returns-clause-asks : goal.returns-clause-asks
returns-clause-asks g c =
    let stopped = c.in-Err-serve.ensures.queried no_sink no_sink in
    record {
      files = stopped.served.files;
      cause = λ collection built.
          serve_lacks _ _ _ _ collection c.args.questions.now built _ c.in-Ok.ensures.left never_rose never_rose c.requires.short c.in-Err-serve.fault stopped.served.cause;
      later = search rules;
    }
