use Rattle.std.proofs.Common.{◌≡◌, ◌+◌, ◌-◌, ◌*◌, ◌≤◌, ◌<◌, ℕ, List, Some}
use Rattle.mg_bits.specs.Feed.{Calm}
use Rattle.mg_defs.specs.declared.Posting.{Posting}
use Rattle.mg_defs.specs.Lists.{doc_before}
use Rattle.mg_post.specs.Stands.{SkipStands}
use Rattle.mg_post.specs.Finding.{TellsBefore, TellsLast, entry_page}
use Rattle.mg_post.proofs.find.search_page.Given as goal

abbrev pub invariant-loop-from : goal.invariant-loop-from
invariant-loop-from g l = record {
  fits : g.F.Feed.fits l.r.feed (g.F.Feed.device l.dev).files;
  calm : Calm (g.F.Feed.feeding l.fn.r.feed) (g.F.Feed.feeding l.r.feed) (g.F.Feed.device l.fn.dev) (g.F.Feed.device l.dev);
  count : (g.F.Feed.feeding l.r.feed).count ≤ (g.F.Feed.feeding l.fn.r.feed).count;
  held : (g.F.Feed.feeding l.r.feed).held ≡ Some (entry_page (l.search.skip_at + l.fn.page.high));
  low : l.fn.page.low ≤ l.from;
  order : l.from ≤ l.to;
  high : l.to ≤ l.fn.page.high;
  middle : l.from ≤ l.middle;
  before_to : l.from < l.to → l.middle < l.to;
  known : l.passed ≤ l.search.all;
  below : l.passed < l.search.doc;
  within : l.search.doc ≤ l.end;
  most : l.end ≤ l.search.all;
  next : l.search.doc ≡ l.fn.page.before + 1 → (l.from ≡ l.fn.page.low) × (l.passed ≡ l.fn.page.before);
  passed_is : TellsBefore ((g.F.Feed.feeding l.fn.r.feed).source (g.F.Feed.device l.fn.dev).files) l.search.skip_at l.fn.page.low l.fn.page.before l.from l.passed;
  end_is : TellsLast ((g.F.Feed.feeding l.fn.r.feed).source (g.F.Feed.device l.fn.dev).files) l.search.skip_at l.fn.page.high l.fn.page.last →
      TellsLast ((g.F.Feed.feeding l.fn.r.feed).source (g.F.Feed.device l.fn.dev).files) l.search.skip_at l.to l.end;
  told : (ps : List Posting) (b blocks : ℕ) → SkipStands l.search.all b ((g.F.Feed.feeding l.fn.r.feed).source (g.F.Feed.device l.fn.dev).files) l.search.skip_at blocks ps → l.fn.page.high < blocks →
      l.fn.page.before ≡ doc_before (64 * l.fn.page.low) ps → l.fn.page.last ≡ doc_before (64 * (l.fn.page.high + 1)) ps →
      (l.passed ≡ doc_before (64 * l.from) ps) × (l.end ≡ doc_before (64 * (l.to + 1)) ps);
}

abbrev pub decreases-loop-from : goal.decreases-loop-from
decreases-loop-from g l = l.to - l.from
