use Rattle.std.proofs.Common.{arith, ◌≡◌, ◌+◌, length}
use Rattle.mg_defs.specs.Lists.{posting_bits}
use Rattle.mg_post.proofs.AheadLaws.{code_held, code_stands, next_ahead, nothing_ahead, one_posting, some_bits}
use Rattle.mg_post.proofs.read.next_posting.Goals as goal

pub returns-in-Some-clause-ahead : goal.returns-in-Some-clause-ahead
returns-in-Some-clause-ahead g c =
    let at : c.seek.new.self.place ≡ c.args.r.now.place + length (posting_bits c.args.code.parameter.value c.args.bounds.after c.in-Some.passed.posting) =
    omega (arith, c.seek.ensures.place, c.from.ensures, c.place.ensures, c.in-Some.ensures.takes.fewer) in
    rw c.seek.ensures.feed
    (next_ahead (g.F.Feed.feeding c.args.r.now.feed) (g.F.Feed.fits c.args.r.now.feed) c.args.r.now.place c.seek.new.self.place _ _ _ _ _
    (g.met.F.Feed.whole_pages c.args.r.now.feed).some at c.in-Some.ensures.takes c.look-seen.ensures)

-- the posting is among the bits that were looked at
pub returns-in-Some-clause-posting : goal.returns-in-Some-clause-posting
returns-in-Some-clause-posting g c =
    let read = code_held (g.F.Feed.feeding c.args.r.now.feed) (g.F.Feed.fits c.args.r.now.feed) c.args.r.now.place _ _ _ _ _
    (g.met.F.Feed.whole_pages c.args.r.now.feed).some c.in-Some.ensures.takes (some_bits _ _ c.in-Some.passed.posting) c.look-seen.ensures
    (g.F.Feed.device c.args.dev.now) in
    record {
      fits = rw c.seek.ensures.feed c.requires.fits;
      calm = rw c.seek.ensures.feed read.calm;
      read = rw c.seek.ensures.feed read;
      pages = tt;
      place = omega (arith, c.seek.ensures.place, c.from.ensures, c.place.ensures, c.in-Some.ensures.takes.fewer);
      shows = code_stands _ c.args.r.now.place _ _ _ _ _ c.in-Some.ensures.takes (c.look-seen.ensures.told _ c.requires.fits);
      follows = c.in-Some.ensures.follows;
      at = tt;
      told = λ p follows small shows.
          one_posting _ c.args.r.now.place c.args.code.parameter.value c.args.bounds.after c.args.bounds.most _ _ _ _ c.in-Some.passed.posting p c.args.code.code.some
          c.args.code.code.small c.in-Some.ensures.takes (c.look-seen.ensures.told _ c.requires.fits) c.in-Some.ensures.follows follows shows;
      cause = tt;
    }

pub returns-in-Ok-clause-ahead : goal.returns-in-Ok-clause-ahead
returns-in-Ok-clause-ahead g c = nothing_ahead _ _ _ _ _ c.none.ensures.bits c.none.ensures.count

pub returns-in-Ok-clause-posting : goal.returns-in-Ok-clause-posting
returns-in-Ok-clause-posting g c = c.in-Ok.ensures

pub returns-in-Err-clause-ahead : goal.returns-in-Err-clause-ahead
returns-in-Err-clause-ahead g c = nothing_ahead _ _ _ _ _ c.none.ensures.bits c.none.ensures.count

pub returns-in-Err-clause-posting : goal.returns-in-Err-clause-posting
returns-in-Err-clause-posting g c = c.in-Err.ensures
