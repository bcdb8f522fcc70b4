use Rattle.std.proofs.Common.{arith, ◌≡◌, ℕ, Err, refl}
use Rattle.mg_bits.specs.declared.code_err.CodeErr.{CodeErr}
use Rattle.mg_bits.specs.declared.code_err.CodeErr.TheVariants.{Device, End, Over}
use Rattle.mg_codes.specs.Refusals.{IsNotOver, OverBelow, as_bits, as_code}
use Rattle.mg_codes.proofs.short.get_short.Goals as goal

same_refusal : (refusal : CodeErr) → IsNotOver refusal → as_code (Err (as_bits refusal)) ≡ Err refusal
same_refusal Device not = refl
same_refusal (End at) not = refl
same_refusal (Over at limit) not = absurd not

never_over : (b : ℕ) (refusal : CodeErr) → OverBelow (Err refusal) b b → IsNotOver refusal
never_over b Device over = tt
never_over b (End at) over = tt
never_over b (Over at limit) over = absurd (omega arith)

pub returns-in-Ok : goal.returns-in-Ok
returns-in-Ok g c = c.in-Ok.ensures.code

pub returns-in-Err : goal.returns-in-Err
returns-in-Err g c = rw (c.without_limit.ensures, same_refusal c.in-Err.refusal (never_over c.args.b c.in-Err.refusal c.in-Err.ensures.over)) c.in-Err.ensures.code
