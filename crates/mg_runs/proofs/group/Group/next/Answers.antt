use Rattle.std.proofs.Common.{ℕ, arith}
use Rattle.mg_defs.specs.declared.TermPosting.{TermPosting}
use Rattle.std.specs.declared.option.Option.{Option}
use Rattle.mg_runs.proofs.Merges.{taking_first, merged_none, left_none, left_some, run_at}
use Rattle.mg_runs.proofs.StepLaws.{step_err, step_none, step_ok, step_then}
use Rattle.mg_runs.proofs.Steps.{damage_none, split_first}
use Rattle.mg_runs.proofs.group.Group.next.Goals as goal

pub returns-in-None : goal.returns-in-None
returns-in-None g c = record {
  told = λ told left has. left_none _ _ _ left has.lefts has.stand has.are (merged_none has.lefts (c.in-None.ensures.told _ has.lefts has.stand)) has.same;
  undamaged = λ told left has. tt;
  doc = tt;
  count = tt;
  fall = tt;
  step = step_none c.args.self.now _ _ _ c.requires.shape;
}

pub returns-in-Ok-gathered : goal.returns-in-Ok-gathered
returns-in-Ok-gathered g c = record {
  told = λ told left has.
      let run : ℕ = c.in-Some.head.0 in
      let p : TermPosting = c.in-Some.head.1 in
      let h = c.in-Some.ensures.told _ has.lefts has.stand in
      let s = split_first _ p h.0 in
      let stand = c.in-Ok.ensures.told told has.lefts p s.0 has.stand s.1 in
      let taking = taking_first has.lefts run p s.0 has.are.runs s.1 h.1 in
      let some = (run_at has.lefts run p s.0 has.are.runs s.1).small.0.count_some in
      let next = rw (c.step.ensures.step.read.look.looked.files, c.step.ensures.step.read.file) at c.in-Ok-gathered.ensures.told in
      let m = next told has.lefts _ stand taking has.are some in
      left_some _ _ _ left has.lefts _ m has.same;
  undamaged = λ told left has. tt;
  doc = omega (arith, c.in-Ok-gathered.ensures.adds.doc, c.in-Some.ensures.in_document.doc);
  count = omega (arith, c.in-Ok-gathered.ensures.adds.count, c.in-Some.ensures.in_document.count);
  fall = omega (arith, c.in-Ok.ensures.total, c.in-Ok-gathered.ensures.step.rest);
  step = step_ok (step_then c.in-Ok.ensures.step c.in-Ok-gathered.ensures.step);
}

pub returns-in-Err-gathered : goal.returns-in-Err-gathered
returns-in-Err-gathered g c = record {
  told = λ told left has. tt;
  undamaged = λ told left has.
      let run : ℕ = c.in-Some.head.0 in
      let p : TermPosting = c.in-Some.head.1 in
      let h = c.in-Some.ensures.told _ has.lefts has.stand in
      let s = split_first _ p h.0 in
      let stand = c.in-Ok.ensures.told told has.lefts p s.0 has.stand s.1 in
      let taking = taking_first has.lefts run p s.0 has.are.runs s.1 h.1 in
      let some = (run_at has.lefts run p s.0 has.are.runs s.1).small.0.count_some in
      let next = rw (c.step.ensures.step.read.look.looked.files, c.step.ensures.step.read.file) at c.in-Err-gathered.ensures.told in
      damage_none TermPosting (Option TermPosting) _ c.in-Err-gathered.refusal (next told has.lefts _ stand taking has.are some);
  doc = tt;
  count = tt;
  fall = tt;
  step = step_err (step_then c.in-Ok.ensures.step c.in-Err-gathered.ensures.step);
}

pub returns-in-Err : goal.returns-in-Err
returns-in-Err g c = record {
  told = λ told left has. tt;
  undamaged = λ told left has.
      let p : TermPosting = c.in-Some.head.1 in
      let h = c.in-Some.ensures.told _ has.lefts has.stand in
      let s = split_first _ p h.0 in
      damage_none (Unit {0}) (Option TermPosting) _ c.in-Err.refusal (c.in-Err.ensures.told told has.lefts p s.0 has.stand s.1);
  doc = tt;
  count = tt;
  fall = tt;
  step = step_err c.in-Err.ensures.step;
}
