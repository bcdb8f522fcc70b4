use Rattle.std.proofs.Common.{ap, sym, subst}
use Rattle.mg_dev.specs.Moments.{store_at}
use Rattle.mg_make.specs.Putting.{IsApart}
use Rattle.mg_build.proofs.BuiltLaws.{built, not_counted}
use Rattle.mg_build.proofs.building.build_opened.Goals as goal

pub returns-in-Err : goal.returns-in-Err
returns-in-Err g c =
    let before = store_at g.S.Store.files g.S.Store.reads g.S.Store.faults c.args.store.now in
    let now = store_at g.S.Store.files g.S.Store.reads g.S.Store.faults c.count_all.new.store in
    record {
      builds = not_counted c.args.base.now c.args.budget c.args.source.now c.count_all.new.source before now c.in-Err.refusal c.requires.size c.requires.source.apart c.in-Err.ensures.counts;
    }

pub write_planned-requires-clause-source : goal.write_planned-requires-clause-source
write_planned-requires-clause-source g c =
    let counts = c.in-Ok.ensures.counts in
    record { fits = counts.fits; apart = subst (λ name. IsApart c.args.base.now name) (sym counts.file.name) c.requires.source.apart }

pub returns-in-Ok : goal.returns-in-Ok
returns-in-Ok g c =
    let before = store_at g.S.Store.files g.S.Store.reads g.S.Store.faults c.args.store.now in
    let counted = store_at g.S.Store.files g.S.Store.reads g.S.Store.faults c.count_all.new.store in
    let now = store_at g.S.Store.files g.S.Store.reads g.S.Store.faults c.write_planned.new.store in
    record {
      builds = built c.in-Ok.made.0 _ c.args.budget c.args.base.now c.args.source.now c.count_all.new.source before counted now c.write_planned.result
          c.requires.size c.requires.unread c.requires.source.apart c.in-Ok.ensures.counts (ap (λ pool. pool.limit) c.in-Ok.ensures.room.pool)
          c.in-Ok.ensures.of c.in-Ok.ensures.read c.write_planned.ensures.writes;
    }
