use Rattle.std.proofs.Common.{arith, Err, ◌∙◌, ◌++◌, ℕ, List, sym, subst, map, take, IsSome}
use Rattle.mg_check_index.specs.Counting.{HasTaken}
use Rattle.mg_check_index.proofs.RunPartLaws.{all_bad, first_all, first_few, first_more, of}
use Rattle.mg_check_parts.proofs.CallerLemmas.{looks_then}
use Rattle.mg_check_index.proofs.run_part.RunPart.push_all.Goals as goal

pub returns-in-Err-clause-taken : goal.returns-in-Err-clause-taken
returns-in-Err-clause-taken g c =
    let inv = c.loop-number.invariant in
    record {
      done = tt;
      bad = λ told.
          all_bad {T = Unit {0}} (Err c.in-Err.refusal) c.args.self.now c.loop-number.self (g.S.Store.files c.args.store.now) (g.S.Store.files c.loop-number.store)
          c.args.numbers.now c.loop-number.number-index c.args.doc
          inv.looks.files inv.name inv.limit inv.taken (c.in-Err.ensures.taken.bad (subst (λ f. IsSome f) (sym inv.looks.files) told));
      looks = looks_then inv.looks c.in-Err.ensures.taken.looks;
    }

pub loop-number-preserved : goal.loop-number-preserved
loop-number-preserved g c =
    let inv = c.loop-number.invariant in
    let numbers = c.args.numbers.now in
    let i = c.loop-number.number-index in
    record {
      taken = λ fed few is.
          subst (λ (o : List (ℕ × ℕ)). HasTaken c.push.new.self (g.S.Store.files c.push.new.store) o) (first_more fed numbers i c.args.doc c.loop-number-test.true)
          (c.in-Ok.ensures.taken.done (fed ++ map (of c.args.doc) (take i numbers)) (first_few fed numbers i c.args.doc c.loop-number-test.true few) (inv.taken fed few is));
      limit = c.push.ensures.same.limit ∙ inv.limit;
      name = c.push.ensures.same.name ∙ inv.name;
      looks = looks_then inv.looks c.in-Ok.ensures.taken.looks;
    }

pub returns-clause-taken : goal.returns-clause-taken
returns-clause-taken g c = record {
  done = λ fed few is.
      subst (λ (o : List (ℕ × ℕ)). HasTaken c.loop-number.self (g.S.Store.files c.loop-number.store) o)
      (first_all fed c.args.numbers.now c.loop-number.number-index c.args.doc (omega (arith, c.loop-number-test.false)))
      (c.loop-number.invariant.taken fed few is);
  bad = λ told. tt;
  looks = c.loop-number.invariant.looks;
}

pub returns-in-Err-clause-same : goal.returns-in-Err-clause-same
returns-in-Err-clause-same g c =
    let inv = c.loop-number.invariant in
    record { name = c.push.ensures.same.name ∙ inv.name; limit = c.push.ensures.same.limit ∙ inv.limit }

pub returns-clause-same : goal.returns-clause-same
returns-clause-same g c = record { name = c.loop-number.invariant.name; limit = c.loop-number.invariant.limit }
