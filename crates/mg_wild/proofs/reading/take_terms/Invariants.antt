use Rattle.std.proofs.Common.{◌≡◌, ◌+◌, ◌-◌, ◌≤◌, length}
use Rattle.mg_bits.specs.Pages.{Looked}
use Rattle.mg_wild.specs.Terms.{AreNumbered, total}
use Rattle.mg_wild.proofs.LoadLaws.{Given_some, Taken}
use Rattle.mg_wild.proofs.reading.take_terms.Given as goal

abbrev pub invariant-loop-terms : goal.invariant-loop-terms
invariant-loop-terms g l = record {
  looked : Looked l.fn.walk.feed.part (g.S.Store.files l.fn.store) (g.S.Store.files l.store) (g.S.Store.reads l.fn.store) (g.S.Store.reads l.store) (g.S.Store.faults l.fn.store) (g.S.Store.faults l.store);
  gave : Given_some l.walk (g.S.Store.files l.store);
  taken : Taken (g.S.Store.files l.fn.store) l.fn.walk.feed.name l.fn.walk.count l.terms l.walk.done;
  name : l.walk.feed.name ≡ l.fn.walk.feed.name;
  part : l.walk.feed.part ≡ l.fn.walk.feed.part;
  width : l.walk.width ≡ 16;
  count : l.walk.count ≡ l.fn.walk.count;
  space : length l.terms.terms + (l.walk.count - l.walk.done) ≤ l.fn.walk.count;
  numbered : AreNumbered 0 l.terms.infos;
  room : total l.terms.terms ≤ l.fn.most;
}

abbrev pub decreases-loop-terms : goal.decreases-loop-terms
decreases-loop-terms g l = l.walk.count - l.walk.done
