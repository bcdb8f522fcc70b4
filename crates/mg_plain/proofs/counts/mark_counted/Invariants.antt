use Rattle.std.proofs.Common.{◌≡◌, ℕ, ◌<◌, length, get_or, true, nat_lt}
use Rattle.mg_plain.proofs.counts.mark_counted.Given as goal

abbrev pub invariant-loop-i : goal.invariant-loop-i
invariant-loop-i l = record {
  size : length l.there ≡ length l.fn.there;
  done : (k : ℕ) → k < l.i → get_or l.there k true ≡ nat_lt 0 (get_or l.counts k 0);
}
