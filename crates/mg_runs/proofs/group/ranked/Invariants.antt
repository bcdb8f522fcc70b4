use Rattle.std.proofs.Common.{◌≡◌, ◌<◌, ℕ, length, get_or}
use Rattle.mg_runs.specs.Merging.{key_of, no_cursor}
use Rattle.mg_runs.proofs.group.ranked.Given as goal

abbrev pub invariant-loop-k : goal.invariant-loop-k
invariant-loop-k l = record {
  size : length l.tournament ≡ length l.cursors.items;
  done : (j : ℕ) → j < l.k → get_or l.tournament j 0 ≡ key_of (get_or l.cursors.items j no_cursor);
}
