use Rattle.mg_bits.proofs.CallerLemmas.{calm_none}
use Rattle.mg_canon.proofs.SymbolReads.{symbol_from}
use Rattle.mg_canon.proofs.canon.Canon.get.Goals as goal

pub returns-in-Some : goal.returns-in-Some
returns-in-Some g c =
    let e = c.in-Some.ensures in
    record {
      fits = rw e.feed c.requires.fits;
      calm = rw e.feed (calm_none (g.F.Feed.feeding c.args.reader.now.feed) (g.F.Feed.device c.args.dev.now));
      read = e.read (g.F.Feed.device c.args.dev.now);
      pages = tt;
      place = e.place;
      told = e.told (g.F.Feed.device c.args.dev.now).files c.requires.fits;
      symbol = e.symbol;
      over = λ at limit is. absurd cc;
      cause = tt;
    }

pub returns-in-None : goal.returns-in-None
returns-in-None g c = symbol_from c.in-None.ensures.feed c.in-None.ensures.place c.get_by_bits.ensures
