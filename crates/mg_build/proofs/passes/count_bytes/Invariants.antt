use Rattle.std.proofs.Common.{◌≡◌, ◌≤◌, ◌-◌, ℕ, List, None}
use Rattle.mg_dev.specs.declared.part.Part.TheVariants.{Plain}
use Rattle.mg_bits.specs.Pages.{Fits, Looked, SameFile}
use Rattle.mg_make.specs.Counting.{HasCounted}
use Rattle.mg_build.specs.Sources.{AreRead, HasReadTo}
use Rattle.mg_build.proofs.passes.count_bytes.Given as goal

abbrev pub invariant-loop-at : goal.invariant-loop-at
invariant-loop-at g l = record {
  within : l.at ≤ l.size;
  fits : Fits l.source.feed (g.S.Store.files l.store);
  file : SameFile l.fn.source.feed l.source.feed;
  size : l.source.size ≡ l.fn.source.size;
  looked : Looked Plain (g.S.Store.files l.fn.store) (g.S.Store.files l.store) (g.S.Store.reads l.fn.store) (g.S.Store.reads l.store) (g.S.Store.faults l.fn.store) (g.S.Store.faults l.store);
  read : l.fn.source.feed.held ≡ None → HasReadTo l.at l.source.feed.held (g.S.Store.reads l.fn.store Plain) (g.S.Store.reads l.store Plain);
  counted : (fed : List ℕ) × AreRead (g.S.Store.files l.fn.store) l.fn.source.feed.name l.at fed × HasCounted l.count fed;
}

abbrev pub decreases-loop-at : goal.decreases-loop-at
decreases-loop-at g l = l.size - l.at
