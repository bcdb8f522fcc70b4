use Rattle.std.proofs.Common.{◌≤◌, ◌<◌, ◌-◌, ◌+◌, ◌++◌, ℕ, List, length}
use Rattle.mg_count.specs.Counting.{HasCounted}
use Rattle.mg_count.specs.Whole.{between}
use Rattle.mg_count.proofs.count.Count.take_pieces.Given as goal

abbrev pub invariant-loop-at : goal.invariant-loop-at
invariant-loop-at l = record {
  after : l.from ≤ l.at;
  within : l.at < length l.bytes;
  counted : (fed : List ℕ) → HasCounted l.fn.self fed → HasCounted l.self (fed ++ between (l.from + 1) (l.at + 1) l.bytes);
}

abbrev pub decreases-loop-at : goal.decreases-loop-at
decreases-loop-at l = length l.bytes - l.at
