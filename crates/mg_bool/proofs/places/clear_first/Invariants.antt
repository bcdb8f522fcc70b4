use Rattle.std.proofs.Common.{ℕ, ◌≡◌, ◌<◌, true, false, get_or, length}
use Rattle.mg_bool.proofs.places.clear_first.Given as goal

abbrev pub invariant-loop-i : goal.invariant-loop-i
invariant-loop-i l = record {
  size : length l.there.items ≡ length l.fn.there.items;
  none : (k : ℕ) → k < l.i → get_or l.there.items k true ≡ false;
}
