use Rattle.std.proofs.Common.{arith, ap, drop, length, length-append, length-drop}
use Rattle.mg_front.proofs.WriterLaws.{cut_coded, puts_answered, whole_coded}
use Rattle.mg_front.proofs.put.put_entry.Goals as goal

pub returns-in-Ok-clause-put : goal.returns-in-Ok-clause-put
returns-in-Ok-clause-put g c = puts_answered _ (whole_coded c.args.number c.args.before.now c.args.string.now c.args.field.now c.if-number-eq0.true) c.in-Ok.ensures

pub returns-in-Ok-clause-size : goal.returns-in-Ok-clause-size
returns-in-Ok-clause-size g c = omega (
  arith,
  ap length (whole_coded c.args.number c.args.before.now c.args.string.now c.args.field.now c.if-number-eq0.true),
  length-append c.args.string.now c.args.field.now,
)

pub returns-in-Ok-put_cut-clause-put : goal.returns-in-Ok-put_cut-clause-put
returns-in-Ok-put_cut-clause-put g c =
    puts_answered _ (cut_coded c.args.number c.args.before.now c.args.string.now c.args.field.now c.shared-from.result c.if-number-eq0.false c.shared-from.ensures.value)
    c.in-Ok-put_cut.ensures

pub returns-in-Ok-put_cut-clause-size : goal.returns-in-Ok-put_cut-clause-size
returns-in-Ok-put_cut-clause-size g c = omega (
  arith,
  ap length (cut_coded c.args.number c.args.before.now c.args.string.now c.args.field.now c.shared-from.result c.if-number-eq0.false c.shared-from.ensures.value),
  length-append (drop c.shared-from.result c.args.string.now) c.args.field.now,
  length-drop c.shared-from.result c.args.string.now,
)
