use Rattle.std.proofs.Common.{◌≡◌, ◌+◌, ◌-◌, ◌*◌, ◌≤◌, ◌<◌, ℕ, List}
use Rattle.mg_bits.specs.Feed.{Calm}
use Rattle.mg_defs.specs.declared.Posting.{Posting}
use Rattle.mg_defs.specs.Lists.{doc_before}
use Rattle.mg_post.specs.Stands.{SkipStands}
use Rattle.mg_post.specs.Finding.{SkipReads, TellsBefore}
use Rattle.mg_post.proofs.find.find_block.Given as goal

abbrev pub invariant-loop-low : goal.invariant-loop-low
invariant-loop-low g l = record {
  fits : g.F.Feed.fits l.r.feed (g.F.Feed.device l.dev).files;
  calm : Calm (g.F.Feed.feeding l.fn.r.feed) (g.F.Feed.feeding l.r.feed) (g.F.Feed.device l.fn.dev) (g.F.Feed.device l.dev);
  reads : SkipReads l.search.skip_at l.low (g.F.Feed.feeding l.r.feed).held (g.F.Feed.feeding l.r.feed).count;
  from : l.search.reached ≤ l.low;
  there : l.low ≤ l.search.blocks;
  known : l.before ≤ l.search.all;
  below : l.before < l.search.doc;
  next : l.search.doc ≡ l.search.last + 1 → (l.low ≡ l.search.reached) × (l.before ≡ l.search.last);
  before_is : TellsBefore ((g.F.Feed.feeding l.fn.r.feed).source (g.F.Feed.device l.fn.dev).files) l.search.skip_at l.search.reached l.search.last l.low l.before;
  told : (ps : List Posting) (b : ℕ) → SkipStands l.search.all b ((g.F.Feed.feeding l.fn.r.feed).source (g.F.Feed.device l.fn.dev).files) l.search.skip_at l.search.blocks ps →
      l.search.last ≡ doc_before (64 * l.search.reached) ps → l.before ≡ doc_before (64 * l.low) ps;
}

abbrev pub decreases-loop-low : goal.decreases-loop-low
decreases-loop-low g l = l.search.blocks - l.low
