use Rattle.std.proofs.Common.{◌-◌, ◌/◌, ◌^◌, ◌≤◌}
use Rattle.mg_canon.proofs.Decoding.{Walk}
use Rattle.mg_canon.proofs.canon.Canon.first_by_lengths.Given as goal

abbrev pub invariant-loop-read : goal.invariant-loop-read
invariant-loop-read l = record {
  walk : Walk l.self-inside.lengths.items l.read (l.next / 2 ^ (57 - l.read));
  some : 1 ≤ l.read;
}

abbrev pub decreases-loop-read : goal.decreases-loop-read
decreases-loop-read l = 48 - l.read
