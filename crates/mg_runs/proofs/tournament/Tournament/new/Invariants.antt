use Rattle.std.proofs.Common.{◌≡◌, ◌<◌, ◌≤◌, ◌+◌, ◌*◌, ℕ, length, get_or}
use Rattle.mg_runs.specs.Tournament.{IsPlayedFrom}
use Rattle.mg_runs.proofs.tournament.Tournament.new.Given as goal

abbrev pub invariant-loop-k : goal.invariant-loop-k
invariant-loop-k l = record { size : length l.winners.items ≡ 2 * l.count; done : (j : ℕ) → j < l.k → get_or l.winners.items (l.count + j) 0 ≡ j }

abbrev pub invariant-loop-i : goal.invariant-loop-i
invariant-loop-i l = record { some : 1 ≤ l.i; most : l.i ≤ l.count; played : IsPlayedFrom l.i l.count l.keys.items l.winners.items }

abbrev pub decreases-loop-i : goal.decreases-loop-i
decreases-loop-i l = l.i
