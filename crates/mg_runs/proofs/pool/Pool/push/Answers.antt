use Rattle.std.proofs.Common.{arith, ◌+◌}
use Rattle.mg_runs.proofs.Chunks.{length_entries, length-chunks, no_chunks}
use Rattle.mg_runs.proofs.pool.Pool.push.Goals as goal

pub put_entry-requires : goal.put_entry-requires
put_entry-requires c =
    let room = rw (← c.self.view_is, length_entries) at c.requires.room in
    omega arith

pub invariant_of-self : goal.invariant_of-self
invariant_of-self c =
    let room = rw (← c.self.view_is, length_entries) at c.requires.room in
    let none = no_chunks c.self.inside.slots c.self.inside.bytes.items (rw (← c.self.view_is) at c.requires.entries) in
    record { in_peak = omega arith; in_limit = omega arith; least = omega arith; most = omega arith }

pub returns-clause-peak : goal.returns-clause-peak
returns-clause-peak c =
    let none = no_chunks c.self.inside.slots c.self.inside.bytes.items (rw (← c.self.view_is) at c.requires.entries) in
    rw (← c.self.view_is)
    (omega (arith, c.max-self-inside.ensures, none, length_entries (c.self.inside.entries + 1) c.put_entry.new.bytes.items, length-chunks 64 c.self.inside.slots c.put_entry.new.bytes.items))
