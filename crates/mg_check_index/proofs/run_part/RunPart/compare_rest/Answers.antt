use Rattle.std.proofs.Common.{arith, Err, ◌≡◌, ◌≤◌, ◌∙◌, ℕ, List, [], ap, subst, length}
use Rattle.mg_check_index.specs.Counting.{HasBegun, RunReading}
use Rattle.mg_runs.proofs.CallerLemmas.{some_entries}
use Rattle.mg_check_index.proofs.RunSteps.{done_bytes, last_bytes, no_last_bytes, taken_entries, taken_most}
use Rattle.mg_check_index.proofs.RunPartLaws.{rest_bad}
use Rattle.mg_check_parts.proofs.CallerLemmas.{looks_none}
use Rattle.mg_check_index.proofs.run_part.RunPart.compare_rest.Goals as goal

pub compare-requires-clause-run : goal.compare-requires-clause-run
compare-requires-clause-run g c =
    let is = c.requires.taken.1 in
    let slots : c.self.inside.pool.slots ≡ [] = ap (λ (r : RunReading). r.pool.slots) c.self.view_is ∙ is.slots in
    let some : 1 ≤ length c.self.inside.pool.entries = some_entries c.self.inside.pool c.used.result c.used.ensures.value slots (omega (arith, c.if-used-eq0.false)) in
    record {
      some = subst (λ (r : RunReading). 1 ≤ length r.pool.entries) c.self.view_is some;
      many = omega (arith, taken_most _ _ _ is, is.most);
      entries = taken_entries _ _ _ is;
    }

pub returns-then-used-eq0-clause-begun : goal.returns-then-used-eq0-clause-begun
returns-then-used-eq0-clause-begun g c =
    let none : length c.self.inside.pool.entries ≡ 0 = omega (arith, c.used.ensures.value, c.if-used-eq0.true) in
    let none_now : length c.args.self.now.pool.entries ≡ 0 = subst (λ (r : RunReading). length r.pool.entries ≡ 0) c.self.view_is none in
    record {
      done = λ fed is.
          subst (λ (b : List ℕ). HasBegun c.args.self.now.part (g.S.Store.files c.args.store.now) b) (no_last_bytes c.args.self.now _ fed is none_now) is.begun;
      bad = λ told. tt;
      looks = looks_none _ _ _;
    }

pub returns-in-Ok-clause-begun : goal.returns-in-Ok-clause-begun
returns-in-Ok-clause-begun g c = record {
  done = λ fed is.
      let slots : c.self.inside.pool.slots ≡ [] = ap (λ (r : RunReading). r.pool.slots) c.self.view_is ∙ is.slots in
      let some : 1 ≤ length c.self.inside.pool.entries = some_entries c.self.inside.pool c.used.result c.used.ensures.value slots (omega (arith, c.if-used-eq0.false)) in
      let some_now : 1 ≤ length c.args.self.now.pool.entries = subst (λ (r : RunReading). 1 ≤ length r.pool.entries) c.self.view_is some in
      subst (λ (b : List ℕ). HasBegun c.compare.new.self.part (g.S.Store.files c.compare.new.store) b)
      (last_bytes c.ranges_join.ensures.runs c.args.self.now _ fed is some_now) (c.in-Ok.ensures.begun.done (done_bytes c.args.self.now fed) is.begun);
  bad = λ told. tt;
  looks = c.in-Ok.ensures.begun.looks;
}

pub returns-in-Err-clause-begun : goal.returns-in-Err-clause-begun
returns-in-Err-clause-begun g c = record {
  done = tt;
  bad = λ told.
      rest_bad {T = Unit {0}} c.ranges_join.ensures.runs (Err c.in-Err.refusal) c.args.self.now (g.S.Store.files c.args.store.now)
      (λ fed is.
      let slots : c.self.inside.pool.slots ≡ [] = ap (λ (r : RunReading). r.pool.slots) c.self.view_is ∙ is.slots in
      let some : 1 ≤ length c.self.inside.pool.entries = some_entries c.self.inside.pool c.used.result c.used.ensures.value slots (omega (arith, c.if-used-eq0.false)) in
      subst (λ (r : RunReading). 1 ≤ length r.pool.entries) c.self.view_is some)
      (c.in-Err.ensures.begun.bad told);
  looks = c.in-Err.ensures.begun.looks;
}
