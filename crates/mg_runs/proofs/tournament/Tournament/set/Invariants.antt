use Rattle.std.proofs.Common.{◌≡◌, ◌<◌, ◌≤◌, ℕ, length, get_or}
use Rattle.mg_runs.specs.Tournament.{IsPlayedBut}
use Rattle.mg_runs.proofs.tournament.Tournament.set.Given as goal

abbrev pub invariant-loop-i : goal.invariant-loop-i
invariant-loop-i l = record {
  count : l.self-inside.count ≡ l.initial.self-inside.count;
  within : l.i < l.self-inside.count;
  played : IsPlayedBut l.i l.self-inside.count l.self-inside.keys.items l.self-inside.winners.items;
  size : length l.self-inside.keys.items ≡ length l.initial.self-inside.keys.items;
  same : (k : ℕ) → l.self-inside.count ≤ k → get_or l.self-inside.keys.items k 0 ≡ get_or l.initial.self-inside.keys.items k 0;
}

abbrev pub decreases-loop-i : goal.decreases-loop-i
decreases-loop-i l = l.i
