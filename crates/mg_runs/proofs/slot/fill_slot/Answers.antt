use Rattle.std.proofs.Common.{rules, ◌≡◌, length, ap, arith}
use Rattle.mg_runs.proofs.Chunks.{write_back}
use Rattle.mg_runs.proofs.slot.fill_slot.Goals as goal

pub returns : goal.returns
returns g c =
    let value = c.deref_mut.ensures.value in
    let sizes = ap (λ t. length t) value in
    let same : length c.fill_in.new.bytes ≡ length c.args.bytes.now.items = omega (arith, sizes, c.fill_in.auto.bytes) in
    let back = write_back c.args.bytes.now.len c.args.bytes.now.items c.fill_in.new.bytes same (search rules) in
    record {
      len = rw back same;
      slots = rw back (rw value at c.fill_in.ensures.slots);
      filled = rw back (rw value at c.fill_in.ensures.filled);
      look = c.fill_in.ensures.look;
    }
