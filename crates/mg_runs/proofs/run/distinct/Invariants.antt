use Rattle.std.proofs.Common.{length, map, drop, ◌-◌, ◌+◌, ◌≡◌, ◌≤◌}
use Rattle.mg_defs.specs.Postings.{gathered}
use Rattle.mg_runs.specs.Bytes.{entry_in}
use Rattle.mg_runs.proofs.run.distinct.Given as goal

abbrev pub invariant-loop-from : goal.invariant-loop-from
invariant-loop-from l = (l.count + length (gathered (map entry_in (drop l.from l.entries))) ≡ length (gathered (map entry_in l.entries))) × (l.from ≤ length l.entries) × (l.count ≤ l.from)

abbrev pub decreases-loop-from : goal.decreases-loop-from
decreases-loop-from l = length l.entries - l.from
