use Rattle.std.proofs.Common.{ℕ, sym, ◌∙◌, arith}
use Rattle.std.specs.declared.option.Option.{Option}
use Rattle.mg_defs.specs.declared.TermPosting.{TermPosting}
use Rattle.mg_runs.proofs.Joins.{counting_more, counting_end}
use Rattle.mg_runs.proofs.StepLaws.{group_bad, group_err, group_none, group_ok, group_then}
use Rattle.mg_runs.proofs.Steps.{undamaged_as}
use Rattle.mg_runs.proofs.join.count_postings.Goals as goal

pub loop-count-init : goal.loop-count-init
loop-count-init g c = record {
  shape = c.requires.shape;
  read = group_none {T = Unit {0}} c.args.group.now _ _ _;
  few = omega arith;
  told = λ told left has. record { has = has; within = omega arith };
}

pub returns-then-count-gt-MOST_LEFT : goal.returns-then-count-gt-MOST_LEFT
returns-then-count-gt-MOST_LEFT g c =
    let inv = c.loop-count.invariant in
    record {
      told = λ told left has. tt;
      undamaged = λ told left has short.
          let is = inv.told told left has in
          let next = rw (inv.read.look.looked.files, inv.read.file) at c.in-Ok-Some.ensures.told in
          let now = next told _ is.has in
          let more = counting_more _ _ _ left c.loop-count.count _ is.within (sym c.in-Ok-Some.field-0-is ∙ now.0) now.1 in
          absurd (omega (arith, more.within));
      few = tt;
      read = group_bad c.damage.result (group_then inv.read c.in-Ok-Some.ensures.step.read) c.damage.ensures.caused c.damage.ensures.names;
    }

pub loop-count-preserved : goal.loop-count-preserved
loop-count-preserved g c =
    let inv = c.loop-count.invariant in
    record {
      shape = c.in-Ok-Some.ensures.step.shape;
      read = group_ok (group_then inv.read c.in-Ok-Some.ensures.step.read);
      few = omega arith;
      told = λ told left has.
          let is = inv.told told left has in
          let next = rw (inv.read.look.looked.files, inv.read.file) at c.in-Ok-Some.ensures.told in
          let now = next told _ is.has in
          counting_more _ _ _ left c.loop-count.count _ is.within (sym c.in-Ok-Some.field-0-is ∙ now.0) now.1;
    }

pub returns-in-Ok-None : goal.returns-in-Ok-None
returns-in-Ok-None g c =
    let inv = c.loop-count.invariant in
    record {
      told = λ told left has.
          let is = inv.told told left has in
          let next = rw (inv.read.look.looked.files, inv.read.file) at c.in-Ok-None.ensures.told in
          counting_end _ _ _ left c.loop-count.count is (sym c.in-Ok-None.field-0-is ∙ (next told _ is.has).0);
      undamaged = λ told left has short. tt;
      few = inv.few;
      read = group_ok (group_then inv.read c.in-Ok-None.ensures.step.read);
    }

pub returns-in-Err : goal.returns-in-Err
returns-in-Err g c =
    let inv = c.loop-count.invariant in
    record {
      told = λ told left has. tt;
      undamaged = λ told left has short.
          let next = rw (inv.read.look.looked.files, inv.read.file) at c.in-Err.ensures.undamaged in
          undamaged_as (Option TermPosting) ℕ c.in-Err.refusal (next told _ (inv.told told left has).has);
      few = tt;
      read = group_err (group_then inv.read c.in-Err.ensures.step.read);
    }
