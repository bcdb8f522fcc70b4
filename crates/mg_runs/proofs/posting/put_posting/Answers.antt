use Rattle.std.proofs.Common.{arith}
use Rattle.mg_defs.specs.RunBits.{run_posting_bits}
use Rattle.mg_runs.proofs.Puts.{puts_err, puts_more, puts_ok}
use Rattle.mg_runs.proofs.posting.put_posting.Goals as goal

pub returns-in-Err : goal.returns-in-Err
returns-in-Err g c = record { puts = puts_err c.in-Err.ensures.puts; place = tt }

pub returns-in-Err-put_number : goal.returns-in-Err-put_number
returns-in-Err-put_number g c = record { puts = puts_err (puts_more c.in-Ok.ensures.puts c.in-Err-put_number.ensures.puts); place = tt }

pub returns-in-Err-put_number-2 : goal.returns-in-Err-put_number-2
returns-in-Err-put_number-2 g c =
    record { puts = puts_err (puts_more c.in-Ok.ensures.puts (puts_more c.in-Ok-put_number.ensures.puts c.in-Err-put_number-2.ensures.puts)); place = tt }

pub returns-in-Ok-put_number-2 : goal.returns-in-Ok-put_number-2
unfolding run_posting_bits
returns-in-Ok-put_number-2 g c =
    let one = rw c.from.ensures at c.in-Ok.ensures.puts in
    let two = rw (c.from-2.ensures, c.doc_gap.ensures) at c.in-Ok-put_number.ensures.puts in
    let three = rw c.from-3.ensures at c.in-Ok-put_number-2.ensures.puts in
    record { puts = puts_ok (puts_more one (puts_more two three)); place = omega (arith, c.in-Ok.ensures.place, c.in-Ok-put_number.ensures.place, c.in-Ok-put_number-2.ensures.place) }
