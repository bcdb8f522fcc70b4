use Rattle.std.proofs.Common.{◌+◌, ◌*◌, drop, sym, ◌∙◌, ap, arith}
use Rattle.std.proofs.lemmas.Bool.{and_left}
use Rattle.mg_defs.specs.Commands.{value}
use Rattle.mg_reply.proofs.CommandLaws.{value_step, digits_step, most_long, most_other, most_low, most_high, most_is, power_more, power_within, all_read, all_digits}
use Rattle.mg_reply.proofs.command.most_of.Goals as goal

pub returns-then-word-gt7-clause-none : goal.returns-then-word-gt7-clause-none
returns-then-word-gt7-clause-none c = most_long _ c.if-word-gt7.true

pub overflow_mul-so_far : goal.overflow_mul-so_far
overflow_mul-so_far c = omega (arith, power_within c.loop-byte.byte-index (omega arith), c.loop-byte.invariant.small)

pub overflow_add-so_far : goal.overflow_add-so_far
overflow_add-so_far c = omega (arith, power_within c.loop-byte.byte-index (omega arith), c.loop-byte.invariant.small, c.in-Some.ensures.some.2)

pub loop-byte-preserved : goal.loop-byte-preserved
loop-byte-preserved c = record {
  value_is = ap (λ d. value (10 * c.loop-byte.so_far + d) (drop (c.loop-byte.byte-index + 1) c.args.word.now)) c.in-Some.ensures.some.1
      ∙ sym (value_step _ _ _ c.loop-byte-test.true) ∙ c.loop-byte.invariant.value_is;
  digits = sym (digits_step c.args.word.now c.loop-byte.byte-index c.loop-byte-test.true ∙ rw c.in-Some.ensures.some.0) ∙ c.loop-byte.invariant.digits;
  small = power_more c.loop-byte.byte-index c.loop-byte.so_far c.in-Some.digit c.loop-byte.invariant.small c.in-Some.ensures.some.2;
}

pub returns-then-so_far-eq0-clause-none : goal.returns-then-so_far-eq0-clause-none
returns-then-so_far-eq0-clause-none c = most_low _ (sym (all_read _ _ _ c.loop-byte-test.false c.loop-byte.invariant.value_is) ∙ c.if-so_far-eq0.true)

pub returns-then-so_far-gt1048576-clause-none : goal.returns-then-so_far-gt1048576-clause-none
returns-then-so_far-gt1048576-clause-none c = most_high _ (omega (arith, all_read _ _ _ c.loop-byte-test.false c.loop-byte.invariant.value_is, c.if-so_far-gt1048576.true))

pub returns-clause-some : goal.returns-clause-some
returns-clause-some c =
    let e = all_read c.args.word.now c.loop-byte.byte-index c.loop-byte.so_far c.loop-byte-test.false c.loop-byte.invariant.value_is in
    (most_is _ (all_digits _ _ c.loop-byte-test.false c.loop-byte.invariant.digits) c.if-word-gt7.false (omega (arith, e, c.if-so_far-eq0.false)) (omega (arith, e, c.if-so_far-gt1048576.false)), e)

pub returns-in_default-clause-none : goal.returns-in_default-clause-none
returns-in_default-clause-none c =
    most_other _ (sym c.loop-byte.invariant.digits ∙ digits_step _ _ c.loop-byte-test.true ∙ and_left _ _ c.in_default.ensures.none)
