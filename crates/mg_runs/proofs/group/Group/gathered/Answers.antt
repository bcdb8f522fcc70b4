use Rattle.std.proofs.Common.{◌≡◌, ◌+◌, ap, refl, sym, ◌∙◌, arith, subst, set}
use Rattle.mg_defs.specs.declared.TermPosting.{TermPosting}
use Rattle.mg_runs.specs.Merging.{IsTaking}
use Rattle.mg_runs.proofs.Merges.{taking_more, taking_end, count_fits}
use Rattle.mg_runs.proofs.Naming.{bit_of_none}
use Rattle.mg_runs.proofs.StepLaws.{step_bad, step_err, step_none, step_ok, step_then}
use Rattle.mg_runs.proofs.Steps.{split_first, tells_err}
use Rattle.mg_runs.proofs.group.Group.gathered.Goals as goal

pub loop-run-init : goal.loop-run-init
loop-run-init g c = record {
  step = step_none {T = Unit {0}} c.args.self.now _ _ _ c.requires.shape;
  told = λ told base lefts stand taking are. record { lefts = lefts; stand = stand; taking = taking; more = omega arith };
  count = omega arith;
}

pub returns-in-None : goal.returns-in-None
returns-in-None g c =
    let e = c.damage.result in
    record {
      told = λ told base lefts stand taking are some.
          let inv = c.loop-run.invariant.told told base lefts stand taking are in
          let y = c.in-Some.ensures.some _ inv.lefts inv.stand inv.taking.from in
          let s = split_first _ y.0 y.1 in
          let more = taking_more c.args.first.now base inv.lefts c.loop-run.count c.in-Some.run' y.0 s.0 inv.taking s.1 y.2 y.3 in
          let fits = count_fits c.args.first.now base _ _ more are in
          let same = y.4 in
          absurd (c.in-None.ensures (omega arith));
      adds = tt;
      step = step_bad e c.loop-run.invariant.step c.damage.ensures.caused c.damage.ensures.memory c.damage.ensures.names (bit_of_none c.loop-run.self.cursors.items e c.damage.ensures.bit);
    }

pub loop-run-preserved : goal.loop-run-preserved
loop-run-preserved g c =
    let inv = c.loop-run.invariant in
    record {
      step = step_then inv.step c.in-Ok.ensures.step;
      told = λ told base lefts stand taking are.
          let has = inv.told told base lefts stand taking are in
          let y = c.in-Some.ensures.some _ has.lefts has.stand has.taking.from in
          let s = split_first _ y.0 y.1 in
          let next = rw (inv.step.read.look.looked.files, inv.step.read.file) at c.in-Ok.ensures.told in
          let more = taking_more c.args.first.now base has.lefts c.loop-run.count c.in-Some.run' y.0 s.0 has.taking s.1 y.2 y.3 in
          let count = has.more in
          let sum : c.loop-run.count + (y.0).count ≡ c.in-Some-checked_add.sum = ap (λ n. c.loop-run.count + n) y.4 ∙ sym c.in-Some-checked_add.ensures.1 in
          record {
            lefts = set has.lefts c.in-Some.run' s.0;
            stand = next told has.lefts y.0 s.0 has.stand s.1;
            taking = subst (λ n. IsTaking c.args.first.now base (set has.lefts c.in-Some.run' s.0) n) sum more;
            more = omega arith;
          };
      count = let n = inv.count in omega (arith, n, c.in-Some-checked_add.ensures.1);
    }

pub returns-in-Err : goal.returns-in-Err
returns-in-Err g c =
    let inv = c.loop-run.invariant in
    record {
      told = λ told base lefts stand taking are some.
          let has = inv.told told base lefts stand taking are in
          let y = c.in-Some.ensures.some _ has.lefts has.stand has.taking.from in
          let s = split_first _ y.0 y.1 in
          let next = rw (inv.step.read.look.looked.files, inv.step.read.file) at c.in-Err.ensures.told in
          tells_err (Unit {0}) TermPosting _ _ c.in-Err.refusal (next told has.lefts y.0 s.0 has.stand s.1);
      adds = tt;
      step = step_err (step_then inv.step c.in-Err.ensures.step);
    }

pub returns : goal.returns
returns g c =
    let inv = c.loop-run.invariant in
    record {
      told = λ told base lefts stand taking are some.
          let has = inv.told told base lefts stand taking are in
          let more = has.more in
          let all = c.in_default.ensures.some _ has.lefts has.stand has.taking.from in
          let end = taking_end c.args.first.now base has.lefts c.loop-run.count has.taking are (omega arith) all in
          record { lefts = has.lefts; stand = has.stand; are = end.1; same = end.0 };
      adds = record { doc = refl; count = inv.count };
      step = step_ok inv.step;
    }
