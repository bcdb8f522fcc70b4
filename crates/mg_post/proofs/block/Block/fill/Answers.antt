use Rattle.std.proofs.Common.{arith}
use Rattle.mg_post.proofs.ReadLaws.{any_refused}
use Rattle.mg_post.proofs.block.Block.fill.Goals as goal

pub read_block-requires-clause-room : goal.read_block-requires-clause-room
read_block-requires-clause-room g c = omega (arith, c.self.invariant.0, c.requires.room)

pub returns-in-Ok : goal.returns-in-Ok
returns-in-Ok g c = c.in-Ok.ensures.read

pub returns-in-Err : goal.returns-in-Err
returns-in-Err g c =
    let e = c.in-Err.ensures.read in
    record {
      fits = e.fits;
      calm = e.calm;
      read = tt;
      pages = e.pages;
      place = e.place;
      whole = tt;
      rises = tt;
      last = tt;
      shows = tt;
      lacks = e.lacks;
      told = λ ps rises le small shows. any_refused c.in-Err.refusal _ _ (e.told ps rises le small shows);
      cause = e.cause;
    }
