use Rattle.std.proofs.Common.{◌≡◌, ◌<◌, ◌≤◌, ◌-◌, ◌^◌, take, drop, sum}
use Rattle.mg_check_index.proofs.ranges.range_end.Given as goal

abbrev pub invariant-loop-number : goal.invariant-loop-number
invariant-loop-number l = record {
  low : l.first ≤ l.number;
  held : l.held ≡ sum (take (l.number - l.first) (drop l.first l.docs));
  few : l.held < 2 ^ 26;
}
