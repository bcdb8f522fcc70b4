use Rattle.std.proofs.Common.{◌≡◌, [], sym, subst, Some}
use Rattle.mg_bits.proofs.CallerLemmas.{held_page_stays}
use Rattle.mg_dev.specs.Files.{file_at}
use Rattle.mg_dev.specs.Moments.{store_at}
use Rattle.mg_dev.specs.Names.{full_name}
use Rattle.mg_dev.specs.declared.part.Part.TheVariants.{Head}
use Rattle.mg_make.specs.Putting.{IsApart}
use Rattle.mg_build.proofs.PassLaws.{left_by_start}
use Rattle.mg_build.proofs.WrittenLaws.{by_writer, not_written, start_stops, start_tells, written_before}
use Rattle.mg_build.proofs.passes.write_set.Goals as goal

-- ---- the writer was not started

pub returns-in-Err : goal.returns-in-Err
returns-in-Err g c = record {
  writes = not_written (λ bytes is. left_by_start c.args.base.now bytes _ _ is.0.told (c.empty_heads_stand_for_none.ensures c.args.base.now _) c.in-Err.ensures.unbuilt)
      c.in-Err.ensures.others c.in-Err.ensures.plain c.in-Err.ensures.cause.later
      (start_stops _ _ _ c.in-Err.refusal _ c.of_store.ensures c.in-Err.ensures.cause) (start_tells _ _ _ _ c.in-Err.refusal _ c.of_store.ensures);
}

-- ---- it was started

pub write_started-requires-clause-source : goal.write_started-requires-clause-source
write_started-requires-clause-source g c =
    let source = c.requires.source in
    record {
      fits = held_page_stays c.args.source.now.feed (g.S.Store.files c.args.store.now) (g.S.Store.files c.start.new.store) c.in-Ok.ensures.others.told
          (c.in-Ok.ensures.others.others c.args.source.now.feed.name source.apart) source.fits;
      apart = subst (λ base. IsApart base c.args.source.now.feed.name) (sym c.in-Ok.ensures.base) source.apart;
    }

pub returns-in-Ok : goal.returns-in-Ok
returns-in-Ok g c =
    let before = store_at g.S.Store.files g.S.Store.reads g.S.Store.faults c.args.store.now in
    let middle = store_at g.S.Store.files g.S.Store.reads g.S.Store.faults c.start.new.store in
    let now = store_at g.S.Store.files g.S.Store.reads g.S.Store.faults c.write_started.new.store in
    record {
      writes = written_before _ _ c.args.base.now c.args.source.now before middle now c.write_started.result c.requires.source.apart c.in-Ok.ensures.others
          c.in-Ok.ensures.plain c.in-Ok.ensures.cause.later
          (λ told. c.empty_heads_stand_for_none.ensures c.args.base.now _
          (subst (λ base. file_at (g.S.Store.files c.start.new.store) (full_name base Head) ≡ Some []) c.in-Ok.ensures.base (c.in-Ok.ensures.put.head told)))
          (by_writer c.in-Ok.writer c.in-Ok.ensures.plan c.in-Ok.ensures.limit c.in-Ok.ensures.base c.write_started.ensures.writes);
    }
