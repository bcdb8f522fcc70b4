use Rattle.std.proofs.Common.{◌≡◌, ◌+◌, ◌^◌, ◌≤◌, List, length, take}
use Rattle.mg_bits.specs.Feed.{Read}
use Rattle.mg_defs.specs.Bits.{Begins, FromPlace, Shows}
use Rattle.mg_defs.specs.declared.Posting.{Posting}
use Rattle.mg_defs.specs.Lists.{bits_after, last_doc, Rises}
use Rattle.mg_post.specs.Ahead.{IsAhead}
use Rattle.mg_post.proofs.read.read_block.Given as goal

abbrev pub invariant-loop-i : goal.invariant-loop-i
invariant-loop-i g l = record {
  fits : g.F.Feed.fits l.r.feed (g.F.Feed.device l.dev).files;
  ahead : IsAhead (g.F.Feed.feeding l.r.feed) (g.F.Feed.fits l.r.feed) l.r.place l.ahead.bits l.ahead.count;
  len : length l.out.items ≡ length l.fn.out.items;
  last : l.last ≡ last_doc l.fn.bounds.after (take l.i l.out.items);
  most : l.last ≤ l.fn.bounds.most;
  rises : Rises l.fn.bounds.most l.fn.bounds.after (take l.i l.out.items);
  place : l.r.place ≡ l.start + length (bits_after l.code.parameter.value l.fn.bounds.after (take l.i l.out.items));
  read : Read (g.F.Feed.feeding l.fn.r.feed) (g.F.Feed.feeding l.r.feed) (g.F.Feed.device l.fn.dev) (g.F.Feed.device l.dev) l.start
      (l.start + length (bits_after l.code.parameter.value l.fn.bounds.after (take l.i l.out.items)));
  shows : FromPlace ((g.F.Feed.feeding l.fn.r.feed).source (g.F.Feed.device l.fn.dev).files) l.start (Begins (bits_after l.code.parameter.value l.fn.bounds.after (take l.i l.out.items)));
  told : (ps : List Posting) → Rises l.fn.bounds.most l.fn.bounds.after ps → l.count ≤ length ps → l.start + length (bits_after l.code.parameter.value l.fn.bounds.after ps) ≤ 2 ^ 63 →
      Shows ((g.F.Feed.feeding l.fn.r.feed).source (g.F.Feed.device l.fn.dev).files) l.start (bits_after l.code.parameter.value l.fn.bounds.after ps) → take l.i l.out.items ≡ take l.i ps;
}
