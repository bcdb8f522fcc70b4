use Rattle.std.proofs.Common.{arith, ◌≤◌, ◌∙◌, ap}
use Rattle.mg_dev.specs.Names.{number}
use Rattle.mg_dev.specs.declared.part.Part.TheVariants.{Places}
use Rattle.mg_layout.specs.HeadAnswers.{fields_of}
use Rattle.mg_make.specs.Putting.{OthersSame}
use Rattle.mg_migrate.proofs.CopyLaws.{ok_more, refused_more, stops_more}
use Rattle.mg_migrate.proofs.MigrateLaws.{lacks_head, others_of_part, parts_ready, same_set, stands_too}
use Rattle.mg_make.proofs.CallerLemmas.{others_more, rose_behind}
use Rattle.mg_migrate.proofs.migrating.make_parts.Goals as goal

pub returns-in-Err-copy_places-clause-writes : goal.returns-in-Err-copy_places-clause-writes
returns-in-Err-copy_places-clause-writes g c =
    let before = g.S.Store.files c.args.store.now in
    let emptied = g.S.Store.files c.empty_parts.new.store in
    let name = c.args.bases.now.name.now in
    let new = c.args.bases.now.new.now in
    record {
      others = others_of_part new Places _ _ _ (λ same. omega (arith, ap number same)) c.in-Ok.ensures.writes.others c.in-Err-copy_places.ensures.writes.alone;
      refused = stops_more c.in-Err-copy_places.refusal _ _ _ _ (λ rose. rose_behind _ _ _ c.in-Ok.ensures.writes.later rose)
          (λ is. (
            is.0,
            is.1,
            stands_too c.args.head.now is.0 name is.1 before emptied c.in-Ok.ensures.writes.others.told
                (c.sets_stand.ensures.parts before emptied name (same_set name new before emptied c.names_apart.ensures.bases c.args.bases.now.apart c.in-Ok.ensures.writes.others))
                is.2,
          ))
          c.in-Err-copy_places.ensures.writes.refused;
      later = omega (arith, c.in-Ok.ensures.writes.later, c.in-Err-copy_places.ensures.writes.later);
    }

pub returns-clause-ready : goal.returns-clause-ready
returns-clause-ready g c = λ code collection stands.
    let before = g.S.Store.files c.args.store.now in
    let emptied = g.S.Store.files c.empty_parts.new.store in
    let placed = g.S.Store.files c.copy_places.new.store in
    let now = g.S.Store.files c.copy_parts.new.store in
    let name = c.args.bases.now.name.now in
    let new = c.args.bases.now.new.now in
    let bases = c.names_apart.ensures.bases in
    let one = stands_too c.args.head.now code name collection before emptied c.in-Ok.ensures.writes.others.told
    (c.sets_stand.ensures.parts before emptied name (same_set name new before emptied bases c.args.bases.now.apart c.in-Ok.ensures.writes.others)) stands in
    let placed_others : OthersSame new before placed = others_of_part new Places before emptied placed (λ same. omega (arith, ap number same))
    c.in-Ok.ensures.writes.others c.in-Ok-copy_places.ensures.writes.alone in
    let two = stands_too c.args.head.now code name collection before placed placed_others.told
    (c.sets_stand.ensures.parts before placed name (same_set name new before placed bases c.args.bases.now.apart placed_others)) stands in
    ok_more c.copy_parts.result _ _
    (λ copied. parts_ready name new c.args.head.now code collection emptied placed now two (c.copy_parts.ensures.writes.others.told ∙ two.told)
    (c.in-Ok.ensures.emptied stands.told) c.in-Ok-copy_places.ensures.writes.alone
    (c.in-Ok-copy_places.ensures.places code collection one) copied c.copy_parts.ensures.kept)
    (c.copy_parts.ensures.copied two.told)

pub returns-clause-writes : goal.returns-clause-writes
returns-clause-writes g c =
    let emptied = c.in-Ok.ensures.writes in
    let placed = c.in-Ok-copy_places.ensures.writes in
    let copied = c.copy_parts.ensures.writes in
    let up : g.S.Store.faults c.args.store.now ≤ g.S.Store.faults c.copy_places.new.store = omega (arith, emptied.later, placed.later) in
    record {
      others = others_more c.args.bases.now.new.now _ _ _
          (others_of_part c.args.bases.now.new.now Places (g.S.Store.files c.args.store.now) (g.S.Store.files c.empty_parts.new.store) (g.S.Store.files c.copy_places.new.store)
          (λ same. omega (arith, ap number same)) emptied.others placed.alone)
          copied.others;
      refused = refused_more c.copy_parts.result (λ rose. rose_behind _ _ _ up rose) (λ is. placed.alone.told ∙ (emptied.others.told ∙ is.2.told)) copied.refused;
      later = omega (arith, up, copied.later);
    }

pub returns-clause-lacks : goal.returns-clause-lacks
returns-clause-lacks g c = λ told.
    let placed = c.in-Ok-copy_places.ensures in
    let emptied = c.in-Ok.ensures in
    let told_then = emptied.writes.others.told ∙ told in
    ok_more c.copy_parts.result _ _
    (λ copied. lacks_head (fields_of c.args.head.now) c.args.bases.now.name.now c.args.bases.now.new.now _ _ _ _ c.names_apart.ensures.bases c.args.bases.now.apart emptied.writes.others placed.writes.alone c.copy_parts.ensures.kept
    (emptied.emptied told) (placed.copied told_then) copied)
    (c.copy_parts.ensures.copied (placed.writes.alone.told ∙ told_then))
