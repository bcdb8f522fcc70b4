use Rattle.std.proofs.Common.{arith, ◌≡◌, ◌^◌, ap, ◌∙◌, refl}
use Rattle.mg_codes.proofs.FirstCodes.{golomb_first, golomb_of_one, one_is}
use Rattle.mg_codes.proofs.ShortWalk.{shape}
use Rattle.mg_codes.proofs.held.first_golomb.Goals as goal

pub returns-then-size-eq0-clause-code : goal.returns-then-size-eq0-clause-code
returns-then-size-eq0-clause-code c =
    let is = shape c.args.b _ _ c.requires.parameter.some c.requires.parameter.small c.code_size-size.ensures.size refl in
    let one : c.args.b ≡ 1 = one_is c.args.b _ c.requires.parameter.some (is.sum ∙ ap (λ n. 2 ^ n) c.if-size-eq0.true) in
    rw one (golomb_of_one c.args.next c.in-Some.ones c.in-Some.ensures)

pub returns-clause-code : goal.returns-clause-code
returns-clause-code c =
    golomb_first c.args.b c.args.next c.in-Some.ones c.first_short-code.result.value c.first_short-code.result.size c.requires.parameter.some c.in-Some.ensures c.first_short-code.ensures.below
    (rw c.behind.ensures.value at c.first_short-code.ensures.code.bits) (omega (arith, c.if-lead-code-gt57.false))
