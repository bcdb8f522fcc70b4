use Rattle.std.proofs.Common.{◌≡◌, ◌<◌, ◌+◌, ◌^◌, ◌++◌, ℕ, List, length, map, take}
use Rattle.mg_check_index.specs.Counting.{HasTaken}
use Rattle.mg_dev.specs.Moments.{Between}
use Rattle.mg_check_parts.specs.Looks.{HasLooked}
use Rattle.mg_check_index.proofs.run_part.RunPart.push_all.Given as goal

abbrev pub invariant-loop-number : goal.invariant-loop-number
invariant-loop-number g l = record {
  taken : (fed : List (ℕ × ℕ)) → length fed + length l.numbers < 2 ^ 32 → HasTaken l.initial.self (g.S.Store.files l.initial.store) fed →
      HasTaken l.self (g.S.Store.files l.store) (fed ++ map (λ n. (n, l.doc)) (take l.number-index l.numbers));
  limit : l.self.pool.limit ≡ l.initial.self.pool.limit;
  name : l.self.part.name ≡ l.initial.self.part.name;
  looks : Between g.S.Store.files g.S.Store.reads g.S.Store.faults l.initial.store l.store HasLooked;
}
