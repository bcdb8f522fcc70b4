use Rattle.std.proofs.Common.{rules, length, ap, arith}
use Rattle.mg_runs.proofs.Chunks.{write_back}
use Rattle.mg_runs.proofs.entry.put_entry.Goals as goal

pub returns-clause-more : goal.returns-clause-more
returns-clause-more c =
    let value = ap (λ t. length t) c.deref_mut.ensures.value in
    rw (write_back c.args.bytes.now.len c.args.bytes.now.items c.set_entry.new.bytes (omega (arith, value, c.set_entry.auto.bytes)) (search rules))
    (rw c.deref_mut.ensures.value at c.set_entry.ensures)
