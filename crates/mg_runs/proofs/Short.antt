-- Gamma codes of small numbers are short.
use Rattle.std.proofs.Common.{ℕ, ◌-◌, ◌<◌, ◌≤◌, ◌^◌, length, arith, lit<, lit≤}
use Rattle.mg_defs.specs.Codes.{gamma, log2}
use Rattle.mg_defs.proofs.FixedLaws.{IsLog, is_log, log_rises}
use Rattle.mg_defs.proofs.CodeLaws.{length_gamma}

pub gamma_short : (x : ℕ) → 1 ≤ x → x < 2 ^ 33 → length (gamma x) ≤ 66
gamma_short x some below =
    let small : x < 2 ^ 64 = omega arith in
    let is : IsLog x (log2 x) = is_log x some small in
    let most : x ≤ 2 ^ 33 - 1 = omega arith in
    let top : IsLog (2 ^ 33 - 1) 32 = record { low = lit≤ tt; high = lit< tt } in
    let le : log2 x ≤ 32 = log_rises x (2 ^ 33 - 1) (log2 x) 32 most is top in
    omega (arith, length_gamma (log2 x) x is small)
