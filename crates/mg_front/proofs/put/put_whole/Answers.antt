use Rattle.mg_front.proofs.WriterLaws.{puts_refused, puts_then}
use Rattle.mg_front.proofs.put.put_whole.Goals as goal

pub returns-in-Err : goal.returns-in-Err
returns-in-Err g c =
    let e = c.in-Err.ensures in
    record { bytes = tt; wrote = e.wrote; cause = e.cause }

pub returns-in-Err-put_all : goal.returns-in-Err-put_all
returns-in-Err-put_all g c =
    let a = c.in-Ok.ensures in
    let e = c.in-Err-put_all.ensures in
    puts_refused (puts_then {q = c.args.string.now} _ (record { bytes = a.bytes; wrote = a.wrote; cause = a.cause }) (record { bytes = tt; wrote = e.wrote; cause = e.cause }))

pub returns : goal.returns
returns g c =
    let a = c.in-Ok.ensures in
    let b = c.in-Ok-put_all.ensures in
    let e = c.put_all-2.ensures in
    puts_then _ (puts_then _ (record { bytes = a.bytes; wrote = a.wrote; cause = a.cause }) (record { bytes = b.bytes; wrote = b.wrote; cause = b.cause }))
    (record { bytes = e.bytes; wrote = e.wrote; cause = e.cause })
