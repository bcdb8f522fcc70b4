use Rattle.std.proofs.Common.{arith, refl}
use Rattle.mg_bits.proofs.WindowLaws.{turn_read}
use Rattle.mg_bits.proofs.window.load.Goals as goal

pub returns-in-Ok-clause-turn : goal.returns-in-Ok-clause-turn
returns-in-Ok-clause-turn g c =
    let e = c.in-Ok.ensures in
    turn_read c.if-is_held.ensures.no (omega arith) c.saturating_add-window.ensures e.files e.reads (record { later = e.cause.later; failed = tt }) refl

pub returns-in-Err-clause-turn : goal.returns-in-Err-clause-turn
returns-in-Err-clause-turn g c =
    let e = c.in-Err.ensures in
    turn_read c.if-is_held.ensures.no (omega arith) c.saturating_add-window.ensures e.files e.reads (record { later = e.cause.later; failed = e.cause.failed }) tt
