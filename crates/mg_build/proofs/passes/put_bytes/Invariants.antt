use Rattle.std.proofs.Common.{◌≡◌, ◌≤◌, ◌-◌, ℕ, List}
use Rattle.mg_dev.specs.Moments.{store_at}
use Rattle.mg_bits.specs.Pages.{Fits, SameFile}
use Rattle.mg_make.specs.Putting.{HasPut}
use Rattle.mg_build.specs.Sources.{AreRead}
use Rattle.mg_build.specs.Steps.{WritesOn}
use Rattle.mg_build.proofs.passes.put_bytes.Given as goal

abbrev pub invariant-loop-at : goal.invariant-loop-at
invariant-loop-at g l = record {
  within : l.at ≤ l.size;
  fits : Fits l.source.feed (g.S.Store.files l.store);
  file : SameFile l.fn.source.feed l.source.feed;
  size : l.source.size ≡ l.fn.source.size;
  goes : WritesOn l.fn.writer l.writer (store_at g.S.Store.files g.S.Store.reads g.S.Store.faults l.fn.store) (store_at g.S.Store.files g.S.Store.reads g.S.Store.faults l.store);
  put : (fed : List ℕ) × AreRead (g.S.Store.files l.fn.store) l.fn.source.feed.name l.at fed × HasPut l.writer (g.S.Store.files l.store) fed;
}

abbrev pub decreases-loop-at : goal.decreases-loop-at
decreases-loop-at g l = l.size - l.at
