use Rattle.std.proofs.Common.{arith, ◌≡◌, ◌+◌, ◌*◌}
use Rattle.mg_codes.proofs.Written.{gamma_at_once}
use Rattle.mg_codes.proofs.gamma.code_of.Goals as goal

pub returns : goal.returns
returns c =
    let many : 2 * c.args.size + 1 ≡ c.args.size + 1 + c.args.size = omega arith in
    rw (many, c.ones_and_zero.ensures, c.power_of-power.ensures.value, c.from.ensures)
    (gamma_at_once c.args.size c.args.x c.requires.low c.requires.high (omega (arith, c.ranges.x.fits)))
