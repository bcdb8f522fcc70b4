use Rattle.std.proofs.Common.{◌≡◌, ◌+◌, ◌*◌, ◌-◌, ◌≤◌, length, take, drop, IsSome}
use Rattle.mg_dev.specs.Files.{bytes_at}
use Rattle.mg_bits.specs.Feed.{Read, of_store}
use Rattle.mg_bits.specs.Pages.{Fits, SameFile, Looked, feeding_of}
use Rattle.mg_bits.proofs.page_feed.PageFeed.fill.Given as goal

abbrev pub invariant-loop-done : goal.invariant-loop-done
invariant-loop-done g l = record {
  within : l.done ≤ length l.buf;
  long : length l.buf ≡ length l.fn.buf;
  fits : Fits l.self (g.S.Store.files l.store);
  file : SameFile l.fn.self l.self;
  looked : Looked l.fn.self.part (g.S.Store.files l.fn.store) (g.S.Store.files l.store) (g.S.Store.reads l.fn.store) (g.S.Store.reads l.store) (g.S.Store.faults l.fn.store) (g.S.Store.faults l.store);
  told : IsSome (g.S.Store.files l.fn.store) → take l.done l.buf ≡ take l.done (drop l.at (bytes_at (g.S.Store.files l.fn.store) l.fn.self.name));
  read : Read (feeding_of 4096 l.fn.self) (feeding_of 4096 l.self)
      (of_store (g.S.Store.files l.fn.store) (g.S.Store.faults l.fn.store) (g.S.Store.reads l.fn.store))
      (of_store (g.S.Store.files l.store) (g.S.Store.faults l.store) (g.S.Store.reads l.store)) (8 * l.at) (8 * (l.at + l.done));
}

abbrev pub decreases-loop-done : goal.decreases-loop-done
decreases-loop-done g l = length l.buf - l.done
