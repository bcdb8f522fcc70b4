use Rattle.std.proofs.Common.{◌≡◌, ◌≤◌, ◌-◌, List, IsSome, false}
use Rattle.std.specs.Int.{div_ceil}
use Rattle.mg_defs.specs.Front.{Entry}
use Rattle.mg_front.specs.Reading.{FrontFits, FrontStands, LookedAt, SameParts}
use Rattle.mg_dev.specs.Names.{same_part}
use Rattle.mg_front.specs.Looks.{halvings}
use Rattle.mg_front.proofs.ReadPages.{Halved}
use Rattle.mg_front.proofs.OrderLaws.{Between}
use Rattle.mg_front.proofs.StoodLaws.{HalvesStand}
use Rattle.mg_front.proofs.reader.FrontReader.block_of.Given as goal

abbrev pub invariant-loop-low : goal.invariant-loop-low
invariant-loop-low g l = record {
  fits : FrontFits l.self (g.S.Store.files l.store);
  same : SameParts l.fn.self l.self;
  looked : LookedAt l.fn.self.strings.part l.fn.self.places.part (g.S.Store.files l.fn.store) (g.S.Store.files l.store) (g.S.Store.reads l.fn.store)
      (g.S.Store.reads l.store) (g.S.Store.faults l.fn.store) (g.S.Store.faults l.store);
  high : l.high ≤ div_ceil l.fn.self.count 4;
  low : l.low ≤ l.high;
  reads : same_part l.fn.self.strings.part l.fn.self.places.part ≡ false →
      Halved l.fn.self.strings.part l.fn.self.places.part (g.S.Store.reads l.fn.store) (g.S.Store.reads l.store) (l.high - l.low)
      (halvings (div_ceil l.fn.self.count 4));
  between : (es : List Entry) → FrontStands l.fn.self (g.S.Store.files l.fn.store) es → Between es l.string l.low l.high;
  stood : IsSome (g.S.Store.files l.fn.store) → HalvesStand l.fn.self (g.S.Store.files l.fn.store) l.string l.low l.high;
}

abbrev pub decreases-loop-low : goal.decreases-loop-low
decreases-loop-low g l = l.high - l.low
