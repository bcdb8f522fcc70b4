use Rattle.std.proofs.Common.{refl, ap, rules}
use Rattle.mg_dev.specs.Moments.{store_at}
use Rattle.mg_merge.proofs.LookLaws.{outside_index}
use Rattle.mg_merge.proofs.StayLaws.{apart_still}
use Rattle.mg_merge.proofs.WrittenLaws.{merged, not_counted}
use Rattle.mg_merge.proofs.merging.merge_texts.Goals as goal

pub returns-in-Err : goal.returns-in-Err
returns-in-Err g c = record { merged = not_counted _ c.args.new.now (g.D.Documents.texts c.args.texts.now) _ _ _ c.in-Err.ensures.counts.looks c.in-Err.ensures.counts.refused }

pub returns-in-Ok : goal.returns-in-Ok
returns-in-Ok g c = record {
  merged = merged c.in-Ok.made.0 _ _ c.args.new.now (g.D.Documents.texts c.args.texts.now) (g.D.Documents.texts c.count_all.new.texts) _
      (store_at g.S.Store.files g.S.Store.reads g.S.Store.faults c.count_all.new.store) _ c.write_planned.result
      c.in-Ok.ensures.counts.same c.in-Ok.ensures.counts.looks.files (outside_index _ _ c.in-Ok.ensures.counts.looks.unread)
      c.in-Ok.ensures.counts.looks.later (ap (λ pool. pool.limit) c.in-Ok.ensures.room.pool) c.in-Ok.ensures.of c.write_planned.ensures.written;
}

pub write_planned-requires : goal.write_planned-requires
write_planned-requires g c =
    let apart = apart_still c.args.new.now (g.D.Documents.texts c.args.texts.now) (g.D.Documents.texts c.count_all.new.texts) c.in-Ok.ensures.counts.same c.requires.texts.apart in
    λ k. ((refl, tt), (c.in-Ok.ensures.plan, (search rules, record { fits = c.in-Ok.ensures.counts.fits; apart = apart })))
