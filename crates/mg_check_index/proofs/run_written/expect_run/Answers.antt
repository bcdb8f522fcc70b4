use Rattle.std.proofs.Common.{rules, Ok, Err, ap, refl}
use Rattle.mg_dev.specs.Names.{full_name}
use Rattle.mg_dev.specs.declared.file_ref.FileRef.{FileRef}
use Rattle.mg_dev.specs.declared.part_err.PartErr.TheVariants.{Device, Memory}
use Rattle.mg_check_parts.proofs.CallerLemmas.{looks_err, looks_ok, looks_then}
use Rattle.mg_check_index.proofs.InStoreLaws.{failed-device, looks-left, looks-run, run-refuted, run-stands}
use Rattle.mg_check_index.proofs.run_written.expect_run.Goals as goal

pub returns-in-Err-Failed-clause-looks : goal.returns-in-Err-Failed-clause-looks
returns-in-Err-Failed-clause-looks g c =
    looks-run g.S.Store.files g.S.Store.reads g.S.Store.faults (Err Device) c.args.store.now c.new-into.result.store.now c.write_run.new.into.store.now _ c.new-into.ensures.now
    (search rules)
    c.write_run.ensures.files c.write_run.ensures.outside c.in-Err-Failed.ensures.cause (λ m n cause. failed-device c.in-Err-Failed.field-0 m n c.in-Err-Failed.field-0-is cause)

pub returns-in-Err-Memory-clause-looks : goal.returns-in-Err-Memory-clause-looks
returns-in-Err-Memory-clause-looks g c =
    looks-run g.S.Store.files g.S.Store.reads g.S.Store.faults (Err Memory) c.args.store.now c.new-into.result.store.now c.write_run.new.into.store.now _ c.new-into.ensures.now
    (search rules)
    c.write_run.ensures.files c.write_run.ensures.outside c.in-Err-Memory.ensures.cause (λ m n cause. record { later = cause.later; device = tt })

pub returns-in-Ok-finish-clause-stand : goal.returns-in-Ok-finish-clause-stand
returns-in-Ok-finish-clause-stand g c =
    run-stands (g.S.Store.files c.args.store.now) (g.S.Store.files c.new-into.result.store.now) (g.S.Store.files c.write_run.new.into.store.now)
    (full_name c.args.file.base.now c.args.file.part) (full_name c.new-into.result.file.base.now c.new-into.result.file.part)
    (full_name c.write_run.new.into.file.base.now c.write_run.new.into.file.part) c.args.at c.new-into.result.from c.write_run.new.into.from c.write_run.new.into.standing
    c.write_run.new.into.rest.now.items _
    (ap g.S.Store.files c.new-into.ensures.now) c.write_run.ensures.files (ap (λ (f : FileRef). full_name f.base.now f.part) c.new-into.ensures.file) c.write_run.ensures.name
    c.new-into.ensures.from c.write_run.ensures.from
    c.in-Ok.ensures.written c.in-Ok-finish.ensures.stand

pub returns-in-Ok-finish-clause-looks : goal.returns-in-Ok-finish-clause-looks
returns-in-Ok-finish-clause-looks g c =
    let first = looks-run g.S.Store.files g.S.Store.reads g.S.Store.faults {U = Unit {0}} (Ok tt) c.args.store.now c.new-into.result.store.now c.write_run.new.into.store.now
    c.write_run.new.into.store.now c.new-into.ensures.now refl
    c.write_run.ensures.files c.write_run.ensures.outside c.write_run.ensures.cause (λ m n cause. record { later = cause.later; device = tt }) in
    looks-left g.S.Store.files g.S.Store.reads g.S.Store.faults (Ok c.in-Ok.count) c.args.store.now c.finish.new.self.store.now _ (search rules) (looks_ok (looks_then first
    c.finish.ensures.looks))

pub returns-clause-other : goal.returns-clause-other
returns-clause-other g c =
    run-refuted c.in-Err.refusal (g.S.Store.files c.args.store.now) (g.S.Store.files c.new-into.result.store.now) (g.S.Store.files c.write_run.new.into.store.now)
    (full_name c.args.file.base.now c.args.file.part) (full_name c.new-into.result.file.base.now c.new-into.result.file.part)
    (full_name c.write_run.new.into.file.base.now c.write_run.new.into.file.part) c.args.at c.new-into.result.from c.write_run.new.into.from c.write_run.new.into.standing
    c.write_run.new.into.rest.now.items _
    (ap g.S.Store.files c.new-into.ensures.now) c.write_run.ensures.files (ap (λ (f : FileRef). full_name f.base.now f.part) c.new-into.ensures.file) c.write_run.ensures.name
    c.new-into.ensures.from c.write_run.ensures.from
    c.in-Ok.ensures.written c.in-Err.ensures.other

pub returns-clause-looks : goal.returns-clause-looks
returns-clause-looks g c =
    let first = looks-run g.S.Store.files g.S.Store.reads g.S.Store.faults {U = Unit {0}} (Ok tt) c.args.store.now c.new-into.result.store.now c.write_run.new.into.store.now
    c.write_run.new.into.store.now c.new-into.ensures.now refl
    c.write_run.ensures.files c.write_run.ensures.outside c.write_run.ensures.cause (λ m n cause. record { later = cause.later; device = tt }) in
    looks-left g.S.Store.files g.S.Store.reads g.S.Store.faults (Err c.in-Err.refusal) c.args.store.now c.finish.new.self.store.now _ (search rules) (looks_err (looks_then first
    c.in-Err.ensures.looks))
