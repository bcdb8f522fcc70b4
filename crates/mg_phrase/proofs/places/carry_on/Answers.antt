use Rattle.std.proofs.Common.{arith}
use Rattle.mg_phrase.proofs.PlaceLaws.{all_set, flags_carry, last_completes}
use Rattle.mg_phrase.proofs.places.carry_on.Goals as goal

pub returns-clause-carried : goal.returns-clause-carried
returns-clause-carried c = flags_carry c.args.phrase.now c.args.begun.now c.loop-i.begun _ (omega (arith, c.requires.few))
    (all_set c.args.phrase.now c.loop-i.begun _ _ c.loop-i.before c.loop-i.i (omega arith) c.loop-i.invariant)

pub returns-clause-complete : goal.returns-clause-complete
returns-clause-complete c = last_completes c.args.phrase.now c.loop-i.begun _ (omega (arith, c.requires.some)) (omega (arith, c.requires.few))
