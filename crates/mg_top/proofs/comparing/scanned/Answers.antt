use Rattle.std.proofs.Common.{refl, rules}
use Rattle.mg_top.proofs.TrialSteps.{never_rose, no_sink, scan_lacks, scan_tells}
use Rattle.mg_top.proofs.comparing.scanned.Goals as goal

pub returns-in-Ok-scan-clause-replies : goal.returns-in-Ok-scan-clause-replies
returns-in-Ok-scan-clause-replies g c = λ collection built.
    let scanned = c.in-Ok-scan.ensures.scanned no_sink no_sink in
    scan_tells _ collection c.args.questions.now _ _ built c.new-out.ensures.written (scanned.done built.stands.told c.args.questions.now c.in-Ok.ensures.left refl)

pub returns-in-Ok-scan-clause-asks : goal.returns-in-Ok-scan-clause-asks
returns-in-Ok-scan-clause-asks g c = record {
  files = (c.in-Ok-scan.ensures.scanned no_sink no_sink).files;
  cause = λ collection built. tt;
  later = search rules;
}

pub returns-clause-asks : goal.returns-clause-asks
returns-clause-asks g c =
    let stopped = c.in-Err-scan.ensures.scanned no_sink no_sink in
    record {
      files = stopped.files;
      cause = λ collection built.
          scan_lacks _ _ _ _ collection c.args.questions.now built _ c.in-Ok.ensures.left never_rose never_rose c.requires.short c.in-Err-scan.fault stopped.cause;
      later = search rules;
    }
