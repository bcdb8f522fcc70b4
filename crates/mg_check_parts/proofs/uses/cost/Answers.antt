use Rattle.std.proofs.Common.{arith, ap, ◌*◌, get_or}
use Rattle.mg_check_parts.proofs.UseLaws.{cost-small, cost-step}
use Rattle.mg_check_parts.proofs.uses.cost.Goals as goal

pub overflow_add-bits : goal.overflow_add-bits
overflow_add-bits c =
    omega (
      arith,
      cost-step c.loop-i.i c.args.counts.now c.args.lengths.now (omega arith) c.requires.each,
      cost-small c.args.counts.now c.args.lengths.now c.requires.short,
      ap (λ n. get_or c.args.counts.now c.loop-i.i 0 * n) c.from.ensures,
      c.loop-i.invariant,
      c.requires.few,
    )
