use Rattle.std.proofs.Common.{◌≡◌, ◌*◌, [], length, min, max}
use Rattle.mg_dev.specs.declared.part.Part.TheVariants.{Run}
use Rattle.mg_dev.specs.Files.{file_at}
use Rattle.mg_dev.specs.Names.{full_name}
use Rattle.mg_runs.specs.Joins.{IsRunPart, Worked}
use Rattle.mg_runs.specs.Reading.{ForRound, RoundHas}
use Rattle.mg_runs.proofs.round.Round.rounds.Given as goal

abbrev pub invariant-loop-alloc : goal.invariant-loop-alloc
invariant-loop-alloc g l = record {
  entries : l.round.pool.entries ≡ [];
  limit : l.round.pool.limit ≡ l.initial.round.pool.limit;
  count : length l.round.places.items ≡ 0 → length l.initial.round.places.items ≡ 0;
  peak : max l.round.pool.peak (64 * min (length l.round.places.items) l.width) ≡ max l.initial.round.pool.peak (64 * min (length l.initial.round.places.items) l.width);
  base : l.round.file.base ≡ l.initial.round.file.base;
  part : IsRunPart l.round.file.part;
  told : ForRound l.initial.round (g.S.Store.files l.initial.store) (λ whole. RoundHas l.round (g.S.Store.files l.store) whole);
  run : file_at (g.S.Store.files l.store) (full_name l.initial.round.file.base.now Run) ≡ file_at (g.S.Store.files l.initial.store) (full_name l.initial.round.file.base.now Run);
  worked : Worked l.initial.round.file.base.now (g.S.Store.files l.initial.store) (g.S.Store.files l.store) (g.S.Store.reads l.initial.store)
      (g.S.Store.reads l.store) (g.S.Store.faults l.initial.store) (g.S.Store.faults l.store);
}

abbrev pub decreases-loop-alloc : goal.decreases-loop-alloc
decreases-loop-alloc g l = length l.round.places.items
