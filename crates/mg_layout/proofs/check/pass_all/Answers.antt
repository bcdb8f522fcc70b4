use Rattle.std.proofs.Common.{arith, sym, ◌∙◌, ap, take, add-one, map, find}
use Rattle.mg_defs.specs.Heads.{is_wrong}
use Rattle.mg_layout.specs.HeadAnswers.{check_of}
use Rattle.mg_layout.proofs.CheckLaws.{found_at, passed_more}
use Rattle.mg_layout.proofs.check.pass_all.Goals as goal

pub returns-then-is_wrong : goal.returns-then-is_wrong
returns-then-is_wrong c = record {
  part_is = c.bad.ensures.part_is;
  damage_is = found_at c.args.checks.now c.loop-check.check-index _ (omega arith) c.loop-check.invariant (sym c.is_wrong.ensures ∙ c.if-is_wrong.true) ∙ c.bad.ensures.damage_is;
}

pub loop-check-preserved : goal.loop-check-preserved
loop-check-preserved c =
    ap (λ n. find is_wrong (map check_of (take n c.args.checks.now))) (add-one c.loop-check.check-index)
    ∙ passed_more c.args.checks.now c.loop-check.check-index _ (omega arith) c.loop-check.invariant (sym c.is_wrong.ensures ∙ c.if-is_wrong.false)
