use Rattle.std.proofs.Common.{◌≡◌, ◌≤◌, ◌*◌}
use Rattle.mg_model.specs.Sizes.{first_sizes}
use Rattle.mg_model.proofs.reading.entry_end.Given as goal

abbrev pub invariant-loop-place : goal.invariant-loop-place
invariant-loop-place l = (l.end ≡ first_sizes l.pieces l.place) × (l.end ≤ 258 * l.place)
