use Rattle.std.proofs.Common.{ℕ, ◌≤◌, ◌-◌, ◌^◌, arith}
use Rattle.std.proofs.Math.Nat.{pow-le-pow_right}
use Rattle.mg_canon.proofs.check.share.Goals as goal

power : (l : ℕ) → 2 ^ (48 - l) ≤ 2 ^ 48
power l = pow-le-pow_right {n = 2} (omega arith) {i = 48 - l} {j = 48} (omega arith)

pub returns-clause-most : goal.returns-clause-most
returns-clause-most c = omega (arith, power c.args.length)
