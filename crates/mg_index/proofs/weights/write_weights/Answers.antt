use Rattle.std.proofs.Common.{arith, ◌∙◌}
use Rattle.mg_index.proofs.Causes.{rose_behind}
use Rattle.mg_index.proofs.StepLaws.{cause_then, put_cause}
use Rattle.mg_index.proofs.weights.write_weights.Goals as goal

pub returns-in-Err : goal.returns-in-Err
returns-in-Err g c = record { bytes = λ told. tt; wrote = c.start.ensures.wrote; cause = put_cause c.in-Err.ensures.cause }

pub returns-in-Err-put_root : goal.returns-in-Err-put_root
returns-in-Err-put_root g c =
    let inv = c.loop-sum.invariant in
    let e = c.put_root.ensures.wrote in
    record {
      bytes = λ told. tt;
      wrote = record {
        told = e.told ∙ inv.wrote.told;
        others = λ n away. e.others n (λ is. away (is ∙ inv.name)) ∙ inv.wrote.others n away;
        reads = λ p. e.reads p ∙ inv.wrote.reads p;
      };
      cause = cause_then inv.later c.in-Err-put_root.ensures.cause;
    }

pub returns-clause-wrote : goal.returns-clause-wrote
returns-clause-wrote g c =
    let inv = c.loop-sum.invariant in
    let e = c.finish.ensures.wrote in
    record {
      told = e.told ∙ inv.wrote.told;
      others = λ n away. e.others n (λ is. away (is ∙ inv.name)) ∙ inv.wrote.others n away;
      reads = λ p. e.reads p ∙ inv.wrote.reads p;
    }

pub returns-clause-cause : goal.returns-clause-cause
returns-clause-cause g c =
    let inv = c.loop-sum.invariant in
    record {
      later = omega (arith, inv.later, c.finish.ensures.cause.later);
      failed = λ is. rose_behind _ _ _ inv.later (c.finish.ensures.cause.failed is);
    }
