use Rattle.std.proofs.Common.{length, ◌-◌}
use Rattle.mg_runs.specs.Groups.{IsLike}
use Rattle.mg_runs.proofs.groups.group_end.Given as goal

abbrev pub invariant-loop-next : goal.invariant-loop-next
invariant-loop-next l = IsLike l.entries l.from l.next l.term l.doc

abbrev pub decreases-loop-next : goal.decreases-loop-next
decreases-loop-next l = length l.entries - l.next
