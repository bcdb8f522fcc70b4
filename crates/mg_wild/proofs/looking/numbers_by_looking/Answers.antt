use Rattle.std.proofs.Common.{arith, ap, ◌<◌, ◌∙◌, length}
use Rattle.mg_wild.specs.Patterns.{sides_of}
use Rattle.mg_wild.proofs.LookLaws.{hit-pushed, looked-all, looked-more, looked-none, none-pushed}
use Rattle.mg_wild.proofs.looking.numbers_by_looking.Goals as goal
use Rattle.mg_wild.proofs.looking.numbers_by_looking.Goals.{then-is_match+in_ok-push, else-is_match}

pub loop-number-init : goal.loop-number-init
loop-number-init c = looked-none (sides_of c.args.pattern.now) c.args.terms.now.terms c.new-numbers.result.items c.new-numbers.ensures.items

pub loop-number-preserved : goal.loop-number-preserved
loop-number-preserved c =
    let within : c.loop-number.number < length c.args.terms.now.terms = omega (arith, c.loop-number-test.true, c.len-number-end.ensures.terms) in
    let more = looked-more (sides_of c.args.pattern.now) c.args.terms.now.terms c.loop-number.number c.term.result.now c.loop-number.numbers.items
    c.if-is_match.numbers.items c.is_match.result within c.term.ensures.term c.loop-number.invariant c.is_match.ensures in
    elim c.if-is_match.branch [
      | then-is_match+in_ok-push w ↦ more (hit-pushed c.loop-number.numbers.items c.if-is_match.numbers.items c.loop-number.number c.is_match.result
          w.if-is_match.true (ap (λ v. v.items) w.numbers-is ∙ w.in_ok-push.ensures.items))
      | else-is_match w ↦ more (none-pushed c.loop-number.numbers.items c.if-is_match.numbers.items c.loop-number.number c.is_match.result w.if-is_match.false
          (ap (λ v. v.items) w.numbers-is))
    ]

pub returns : goal.returns
returns c = looked-all (sides_of c.args.pattern.now) c.args.terms.now.terms c.loop-number.number c.loop-number.numbers.items
    (omega (arith, c.loop-number-test.false, c.len-number-end.ensures.terms)) c.loop-number.invariant
