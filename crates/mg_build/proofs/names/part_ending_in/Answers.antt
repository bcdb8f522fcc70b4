use Rattle.std.proofs.Common.{arith, ◌≡◌, ◌∙◌, sym, inl, inr}
use Rattle.std.proofs.lemmas.Bool.{cases_lt}
use Rattle.mg_dev.specs.Names.{number}
use Rattle.mg_build.proofs.NameLaws.{number_below, other_end}
use Rattle.mg_build.proofs.names.part_ending_in.Goals as goal

pub loop-part-init : goal.loop-part-init
loop-part-init c = λ p plain below. absurd (omega (arith, below))

pub loop-part-preserved : goal.loop-part-preserved
loop-part-preserved c = λ p plain below. elim (cases_lt (number p) c.loop-part.part-index) [
  | inl less ↦ c.loop-part.invariant p plain less
  | inr more ↦
      let same : number p ≡ c.loop-part.part-index = omega (arith, below, more) in
      other_end c.as_bytes.result.now c.args.end.now c.loop-part.part-index _ p plain same (c.as_bytes.ensures.value ∙ c.ending.ensures)
      (sym c.if-eq.false ∙ c.eq.ensures)
]

pub returns-clause-none : goal.returns-clause-none
returns-clause-none c = λ none p plain. c.loop-part.invariant p plain (omega (arith, number_below p plain, c.loop-part-test.false))
