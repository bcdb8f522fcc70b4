use Rattle.std.proofs.Common.{arith, ◌≡◌, ◌*◌, ◌%◌, ◌^◌, ℕ}
use Rattle.mg_defs.specs.Codes.{ceil_log2}
use Rattle.mg_codes.specs.Readers.{IsParameter}
use Rattle.mg_codes.proofs.ShortWalk.{one_shifted, power_of_size, shorter_is, small_ceil}
use Rattle.mg_codes.proofs.remainder.shorter_codes.Goals as goal

shifted_once : (b size : ℕ) → IsParameter b → size ≡ ceil_log2 b → 1 * 2 ^ size % 18446744073709551616 ≡ 2 ^ size
shifted_once b size parameter is = one_shifted size (omega (arith, is, small_ceil b parameter.some parameter.small))

pub overflow_shl-result : goal.overflow_shl-result
overflow_shl-result c = omega (arith, c.requires.size, small_ceil c.args.b c.requires.parameter.some c.requires.parameter.small)

pub overflow_sub-result : goal.overflow_sub-result
overflow_sub-result c =
    rw (shifted_once c.args.b c.args.size c.requires.parameter c.requires.size)
    ((power_of_size c.args.b c.args.size c.requires.parameter.some c.requires.parameter.small c.requires.size).0)

pub returns-clause-few : goal.returns-clause-few
returns-clause-few c = rw (shifted_once c.args.b c.args.size c.requires.parameter c.requires.size) (shorter_is c.args.b c.args.size c.requires.size)

pub returns-clause-small : goal.returns-clause-small
returns-clause-small c =
    rw (shifted_once c.args.b c.args.size c.requires.parameter c.requires.size)
    (let p = power_of_size c.args.b c.args.size c.requires.parameter.some c.requires.parameter.small c.requires.size in omega (arith, p.0, p.1))
