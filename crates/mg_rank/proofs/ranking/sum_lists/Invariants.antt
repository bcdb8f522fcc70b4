use Rattle.std.proofs.Common.{◌≡◌, ℕ, ◌+◌, ◌*◌, ◌^◌, ◌≤◌, List, length, take, sum_by}
use Rattle.mg_dev.specs.declared.part.Part.TheVariants as part
use Rattle.mg_defs.specs.Split.{documents}
use Rattle.mg_defs.specs.PageBounds.{list_pages}
use Rattle.mg_post.specs.PagesOnce.{span_pages}
use Rattle.mg_post.specs.TermLists.{ListsStand, ReadsLists}
use Rattle.mg_rank.specs.Ranked.{AreTold, SumsFor, list_entries}
use Rattle.mg_rank.specs.Added.{AddedTo}
use Rattle.mg_rank.specs.WeightReads.{ascents_in}
use Rattle.mg_rank.specs.Sums.{AreApart, AreWithin, sum_of}
use Rattle.mg_rank.proofs.ranking.sum_lists.Given as goal

abbrev pub invariant-loop-info : goal.invariant-loop-info
invariant-loop-info g l = record {
  files : g.S.Store.files l.store ≡ g.S.Store.files l.fn.store;
  reads : ReadsLists (g.S.Store.reads l.fn.store) (g.S.Store.reads l.store);
  once : (collection : List ℕ) (ts : List (List ℕ)) → ListsStand l.base (g.S.Store.files l.fn.store) collection → AreTold collection ts l.terms →
      l.all ≡ length (documents collection) → g.S.Store.reads l.store part.Post ≤ g.S.Store.reads l.fn.store part.Post
      + sum_by (span_pages collection) (take l.info-index ts);
  skips : g.S.Store.reads l.store part.Skip ≤ g.S.Store.reads l.fn.store part.Skip + sum_by list_entries (take l.info-index l.terms);
  ascents : ascents_in l.sums ≤ l.info-index;
  faults : g.S.Store.faults l.fn.store ≤ g.S.Store.faults l.store;
  small : (d : ℕ) → sum_of d l.sums ≤ l.info-index * 2 ^ 29;
  within : AreWithin l.all l.sums;
  apart : AreApart l.sums;
  added : AddedTo l.all l.terms l.info-index l.sums;
  sums : (collection : List ℕ) (ts : List (List ℕ)) → ListsStand l.base (g.S.Store.files l.fn.store) collection → AreTold collection ts l.terms →
      l.all ≡ length (documents collection) → SumsFor collection (take l.info-index ts) l.sums;
  post : (collection : List ℕ) (ts : List (List ℕ)) → ListsStand l.base (g.S.Store.files l.fn.store) collection → AreTold collection ts l.terms →
      l.all ≡ length (documents collection) → g.S.Store.reads l.store part.Post ≤ g.S.Store.reads l.fn.store part.Post
      + sum_by (list_pages collection) (take l.info-index ts);
}
