use Rattle.std.proofs.Common.{sym, subst}
use Rattle.mg_dev.specs.Moments.{store_at}
use Rattle.mg_session.specs.Searching.{Opened, SearchFits}
use Rattle.mg_session.proofs.OpenLaws.{parts_opened, parts_refused}
use Rattle.mg_session.proofs.SetLaws.{opened_fits}
use Rattle.mg_session.proofs.searcher.Searcher.open.Goals as goal

pub returns-in-Err : goal.returns-in-Err
returns-in-Err g c = record {
  fits = tt;
  set =
      rw c.from.ensures (parts_refused c.args.base.now (store_at g.S.Store.files g.S.Store.reads g.S.Store.faults c.args.store.now)
      (store_at g.S.Store.files g.S.Store.reads g.S.Store.faults c.load.new.store) c.args.head.now c.in-Err.refusal c.in-Err.ensures.files c.in-Err.ensures.reads
      (record { later = c.in-Err.ensures.cause.later; device = c.in-Err.ensures.cause.device }) c.in-Err.ensures.never_bad);
  parts = tt;
}

pub returns : goal.returns
returns g c = record {
  fits = subst (λ (o : Opened). SearchFits (g.S.Store.files c.load.new.store) o) (sym c.new-searcher.ensures)
      (opened_fits c.args.base.now _ c.args.head.now c.in-Ok.lex c.in-Ok.ensures.fits c.requires);
  set = parts_opened c.args.base.now (store_at g.S.Store.files g.S.Store.reads g.S.Store.faults c.args.store.now)
      (store_at g.S.Store.files g.S.Store.reads g.S.Store.faults c.load.new.store) c.args.head.now c.in-Ok.lex c.new-searcher.result c.new-searcher.ensures
      c.in-Ok.ensures.files c.in-Ok.ensures.reads c.in-Ok.ensures.cause.later c.in-Ok.ensures.stands;
  parts = record { lex = c.in-Ok.lex; reader = c.in-Ok.ensures.lex; opened_is = c.new-searcher.ensures };
}
