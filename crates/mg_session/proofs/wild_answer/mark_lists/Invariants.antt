use Rattle.std.proofs.Common.{◌≡◌, ◌≤◌, ℕ, List, take, sum_by}
use Rattle.mg_bits.specs.Pages.{Fits}
use Rattle.mg_post.specs.PagesOnce.{span_pages}
use Rattle.mg_rank.specs.Ranked.{PostWithin}
use Rattle.mg_session.specs.WildAnswers.{WildSources}
use Rattle.mg_session.specs.WildMarks.{AddsLists, ReadsBase, ReadsPost, terms_at}
use Rattle.mg_session.proofs.wild_answer.mark_lists.Given as goal

abbrev pub invariant-loop-number : goal.invariant-loop-number
invariant-loop-number g l = record {
  room : l.marked.all ≡ l.lists.all;
  over : ReadsBase l.lists.base.now l.lists.all l.reader;
  fits : Fits l.reader.post (g.S.Store.files l.store);
  files : g.S.Store.files l.store ≡ g.S.Store.files l.fn.store;
  reads : ReadsPost (g.S.Store.reads l.fn.store) (g.S.Store.reads l.store);
  faults : g.S.Store.faults l.fn.store ≤ g.S.Store.faults l.store;
  added : (collection : List ℕ) → WildSources l.lists.base.now (g.S.Store.files l.fn.store) l.terms l.lists.all collection →
      AddsLists collection (terms_at collection (take l.number-index l.numbers)) l.fn.marked l.marked;
  post : (collection : List ℕ) → WildSources l.lists.base.now (g.S.Store.files l.fn.store) l.terms l.lists.all collection →
      PostWithin g.S.Store.reads l.fn.store l.store (sum_by (span_pages collection) (terms_at collection (take l.number-index l.numbers)));
}
