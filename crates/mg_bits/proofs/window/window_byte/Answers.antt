use Rattle.std.proofs.Common.{arith, ap, ◌∙◌, ◌+◌, ◌*◌, length, take, slice_get, sym}
use Rattle.std.proofs.Math.Nat.{mul_comm}
use Rattle.std.proofs.lemmas.Nat.{div-mul-add, mod-mul-add}
use Rattle.mg_bits.proofs.WindowLaws.{byte_found, byte_refused}
use Rattle.mg_bits.proofs.window.window_byte.Goals as goal

pub load-requires-clause-fits : goal.load-requires-clause-fits
load-requires-clause-fits g c = omega (arith, mul_comm (length c.args.page.now) c.args.number, c.requires.place)

pub returns-in-Err-clause-byte : goal.returns-in-Err-clause-byte
returns-in-Err-clause-byte g c =
    let long = length c.args.page.now in
    byte_refused (c.args.number * long + c.args.offset) (rw (← div-mul-add c.args.number long c.args.offset c.requires.offset) at c.in-Err.ensures.turn)

pub returns-in-Ok-clause-byte : goal.returns-in-Ok-clause-byte
returns-in-Ok-clause-byte g c =
    let long = length c.args.page.now in
    let kept = take c.load.new.window.count c.load.new.page in
    byte_found (c.args.number * long + c.args.offset) kept _ (omega (arith, c.requires.offset))
    (rw (← div-mul-add c.args.number long c.args.offset c.requires.offset) at c.in-Ok.ensures.turn)
    (c.byte_in.ensures ∙ ap (λ i. slice_get kept i) (sym (mod-mul-add c.args.number long c.args.offset c.requires.offset)))
    (rw c.load.auto.page at c.in-Ok.ensures.window.agrees)
