use Rattle.std.proofs.Common.{refl}
use Rattle.mg_runs.proofs.Merges.{all_after_other, all_after_none}
use Rattle.mg_runs.proofs.group.Group.alike.Goals as goal

pub returns-in-Some : goal.returns-in-Some
returns-in-Some c = record {
  some = λ file lefts stand from.
      let h = c.in-Some.ensures.told file lefts stand in
      (c.in-Some.head, h.0, c.if-head-posting.true, c.if-head-posting-2.true, refl);
  left = c.in-Some.ensures.left;
}

pub returns-in_default : goal.returns-in_default
returns-in_default c = record {
  some = λ file lefts stand from.
      let h = c.in-Some.ensures.told file lefts stand in
      all_after_other c.args.posting.now c.in-Some.head lefts c.in-Some.run' from h.0 h.1 (λ a b. c.if-head-posting-2.false b);
  left = tt;
}

pub returns-in_default-2 : goal.returns-in_default-2
returns-in_default-2 c = record {
  some = λ file lefts stand from.
      let h = c.in-Some.ensures.told file lefts stand in
      all_after_other c.args.posting.now c.in-Some.head lefts c.in-Some.run' from h.0 h.1 (λ a b. c.if-head-posting.false a);
  left = tt;
}

pub returns-in_default-3 : goal.returns-in_default-3
returns-in_default-3 c = record { some = λ file lefts stand from. all_after_none c.args.posting.now lefts ((rw c.in_default.is at c.head.ensures.told) file lefts stand); left = tt }
