use Rattle.std.proofs.Common.{arith, ◌∙◌, ap, subst, length}
use Rattle.mg_front.specs.Walk.{AfterNext}
use Rattle.mg_wild.proofs.LoadLaws.{looked-on, summed-more}
use Rattle.mg_wild.proofs.reading.total_size.Goals as goal

pub loop-walk-preserved : goal.loop-walk-preserved
loop-walk-preserved g c =
    let inv = c.loop-walk.invariant in
    let same = c.in_ok-next.ensures.same in
    let step = subst (λ b. AfterNext b c.loop-walk.walk c.next.new.self) c.if-branch.true c.in_ok-next.ensures.step in
    record {
      looked = looked-on inv.looked c.in_ok-next.ensures.looked inv.part;
      summed = summed-more c.loop-walk.walk c.next.new.self (g.S.Store.files c.loop-walk.store) (g.S.Store.files c.next.new.store) c.loop-walk.size
          (length c.string_in.result.now) c.in_ok-next.field-0 c.next.new.out c.loop-walk.walk.width inv.summed
          (c.in_ok-next.ensures.gave inv.summed.es inv.summed.gave) c.if-branch.true (ap length c.string_in.ensures.string);
      name = same.name ∙ inv.name;
      part = same.part ∙ inv.part;
      width = same.width ∙ inv.width;
      count = same.count ∙ inv.count;
      most = omega (arith, inv.most, step.1, c.string_in.ensures.short);
    }
