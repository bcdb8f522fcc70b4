use Rattle.std.proofs.Common.{sym, subst}
use Rattle.mg_dev.specs.Causes.{Rose}
use Rattle.mg_dev.specs.Faults.{ReadStops}
use Rattle.mg_layout.specs.HeadAnswers.{fields_of}
use Rattle.mg_layout.specs.Stands.{IsSetBy}
use Rattle.mg_migrate.proofs.MadeFromLaws.{from_nothing, from_part, from_unbuilt, from_whole}
use Rattle.mg_migrate.proofs.WideLaws.{head_stops, wide_within}
use Rattle.mg_migrate.proofs.migrating.make_set.Goals as goal

pub returns-in-Err-clause-made : goal.returns-in-Err-clause-made
returns-in-Err-clause-made g c = from_nothing _ _ _ _ _

pub returns-in-Err-make_parts-clause-made : goal.returns-in-Err-make_parts-clause-made
returns-in-Err-make_parts-clause-made g c = from_unbuilt _ _ _ _ _ _ c.empty_heads_stand_for_none.ensures c.in-Err-make_parts.ensures.unbuilt c.in-Err-make_parts.ensures.writes.others

pub write-requires : goal.write-requires
write-requires g c = record { within = wide_within (fields_of c.args.head.now) c.requires }

pub returns-in-Ok-write-clause-made : goal.returns-in-Ok-write-clause-made
returns-in-Ok-write-clause-made g c =
    let parts = c.in-Ok-make_parts.ensures in
    from_whole c.args.head.now c.args.bases.now.name.now c.args.bases.now.new.now _ _ _ parts.ready parts.lacks parts.writes.others c.heads_make_sets.ensures.whole c.in-Ok-write.ensures.content

pub returns-clause-made : goal.returns-clause-made
returns-clause-made g c =
    let parts = c.in-Ok-make_parts.ensures in
    from_part c.args.head.now c.args.bases.now.name.now c.args.bases.now.new.now _ _ _ parts.ready parts.lacks parts.writes.others c.of_store.result c.heads_make_sets.ensures.left c.in-Err-write.ensures.content

pub returns-clause-refused : goal.returns-clause-refused
returns-clause-refused g c =
    let whole = IsSetBy c.args.head.now (g.S.Store.files c.args.store.now) c.args.bases.now.name.now in
    subst (λ f. ReadStops (Rose (g.S.Store.faults c.args.store.now) (g.S.Store.faults c.write.new.store)) whole f) (sym c.of_store.ensures)
    (head_stops (g.S.Store.faults c.args.store.now) (g.S.Store.faults c.make_parts.new.store) (g.S.Store.faults c.write.new.store) c.in-Err-write.refusal whole
    c.in-Ok-make_parts.ensures.writes.later c.in-Err-write.ensures.cause)
