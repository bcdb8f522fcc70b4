use Rattle.std.proofs.Common.{◌≡◌, ◌-◌, ◌*◌, ◌≤◌}
use Rattle.mg_dev.specs.Names.{full_name}
use Rattle.mg_bits.specs.Pages.{Looked}
use Rattle.mg_wild.proofs.LoadLaws.{Summed}
use Rattle.mg_wild.proofs.reading.total_size.Given as goal

abbrev pub invariant-loop-walk : goal.invariant-loop-walk
invariant-loop-walk g l = record {
  looked : Looked l.fn.file.part (g.S.Store.files l.fn.store) (g.S.Store.files l.store) (g.S.Store.reads l.fn.store) (g.S.Store.reads l.store) (g.S.Store.faults l.fn.store) (g.S.Store.faults l.store);
  summed : Summed l.walk (g.S.Store.files l.store) l.size;
  name : l.walk.feed.name ≡ full_name l.fn.file.base.now l.fn.file.part;
  part : l.walk.feed.part ≡ l.fn.file.part;
  width : l.walk.width ≡ 16;
  count : l.walk.count ≡ l.fn.count;
  most : l.size ≤ 255 * l.walk.done;
}

abbrev pub decreases-loop-walk : goal.decreases-loop-walk
decreases-loop-walk g l = l.walk.count - l.walk.done
