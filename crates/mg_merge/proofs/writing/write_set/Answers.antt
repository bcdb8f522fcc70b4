use Rattle.std.proofs.Common.{◌≡◌, [], Some, refl, sym, subst}
use Rattle.mg_dev.specs.Files.{file_at}
use Rattle.mg_dev.specs.Moments.{store_at}
use Rattle.mg_dev.specs.Names.{full_name}
use Rattle.mg_dev.specs.declared.part.Part.TheVariants.{Head}
use Rattle.mg_merge.specs.Passes.{AreApart}
use Rattle.mg_merge.proofs.LookLaws.{none_index}
use Rattle.mg_merge.proofs.PassLaws.{left_by_start}
use Rattle.mg_merge.proofs.StayLaws.{fits_stay}
use Rattle.mg_merge.proofs.WrittenLaws.{by_writer, not_written, start_stops, written_before}
use Rattle.mg_merge.proofs.writing.write_set.Goals as goal

-- ---- the writer was not started

pub returns-in-Err : goal.returns-in-Err
returns-in-Err g c = record {
  written = not_written _ _ c.args.base.now (g.D.Documents.texts c.args.texts.now) _ _ _
      (λ collection stand. left_by_start c.args.base.now collection _ _ stand.first.told (c.empty_heads_stand_for_none.ensures c.args.base.now _) c.in-Err.ensures.unbuilt)
      c.in-Err.ensures.others (none_index _ _ c.in-Err.ensures.reads) c.in-Err.ensures.cause.later (start_stops _ _ _ c.in-Err.refusal _ c.of_store.ensures c.in-Err.ensures.cause);
}

-- ---- it was started

pub write_started-requires : goal.write_started-requires
write_started-requires g c =
    let texts = g.D.Documents.texts c.args.texts.now in
    let given = c.requires.texts in
    let fits = fits_stay c.args.base.now texts (g.S.Store.files c.args.store.now) (g.S.Store.files c.start.new.store) given.apart c.in-Ok.ensures.others given.fits in
    let apart = subst (λ base. AreApart base texts) (sym c.in-Ok.ensures.base) given.apart in
    λ k. ((refl, tt), (record { fits = fits; apart = apart }, c.in-Ok.ensures.put))

pub returns-in-Ok : goal.returns-in-Ok
returns-in-Ok g c =
    let texts = g.D.Documents.texts c.args.texts.now in
    let middle = store_at g.S.Store.files g.S.Store.reads g.S.Store.faults c.start.new.store in
    let now = store_at g.S.Store.files g.S.Store.reads g.S.Store.faults c.write_started.new.store in
    record {
      written = written_before _ _ c.args.base.now texts _ middle now c.write_started.result c.requires.texts.apart c.in-Ok.ensures.others (none_index _ _ c.in-Ok.ensures.reads)
          c.in-Ok.ensures.cause.later
          (λ told. c.empty_heads_stand_for_none.ensures c.args.base.now _
          (subst (λ base. file_at (g.S.Store.files c.start.new.store) (full_name base Head) ≡ Some []) c.in-Ok.ensures.base (c.in-Ok.ensures.put.head told)))
          (by_writer c.in-Ok.writer _ _ _ texts middle now c.write_started.result c.in-Ok.ensures.plan c.in-Ok.ensures.limit c.in-Ok.ensures.base c.write_started.ensures.written);
    }
