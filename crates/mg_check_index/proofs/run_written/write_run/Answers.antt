use Rattle.mg_dev.specs.Names.{full_name}
use Rattle.mg_check_index.proofs.InStoreLaws.{kept-cause, kept-files, kept-from, kept-ghost, kept-looked, kept-name, kept-outside, written-followed}
use Rattle.mg_check_index.proofs.run_written.write_run.Goals as goal

pub returns-clause-same_reference : goal.returns-clause-same_reference
returns-clause-same_reference g c = kept-ghost c.args.into.now.store.ghost_name c.write_into.new.store.store.ghost_name c.args.into.now.from c.write_into.new.store.from
    c.args.into.now.looked c.write_into.new.store.looked
    (full_name c.args.into.now.file.base.now c.args.into.now.file.part) (full_name c.write_into.new.store.file.base.now c.write_into.new.store.file.part) (g.S.Store.files
    c.args.into.now.store.now) (g.S.Store.files c.write_into.new.store.store.now)
    (g.S.Store.reads c.args.into.now.store.now) (g.S.Store.reads c.write_into.new.store.store.now) c.write_into.ensures.wrote.reads

pub returns-clause-name : goal.returns-clause-name
returns-clause-name g c = kept-name c.args.into.now.store.ghost_name c.write_into.new.store.store.ghost_name c.args.into.now.from c.write_into.new.store.from
    c.args.into.now.looked c.write_into.new.store.looked
    (full_name c.args.into.now.file.base.now c.args.into.now.file.part) (full_name c.write_into.new.store.file.base.now c.write_into.new.store.file.part) (g.S.Store.files
    c.args.into.now.store.now) (g.S.Store.files c.write_into.new.store.store.now)
    (g.S.Store.reads c.args.into.now.store.now) (g.S.Store.reads c.write_into.new.store.store.now) c.write_into.ensures.wrote.reads

pub returns-clause-from : goal.returns-clause-from
returns-clause-from g c = kept-from c.args.into.now.store.ghost_name c.write_into.new.store.store.ghost_name c.args.into.now.from c.write_into.new.store.from
    c.args.into.now.looked c.write_into.new.store.looked
    (full_name c.args.into.now.file.base.now c.args.into.now.file.part) (full_name c.write_into.new.store.file.base.now c.write_into.new.store.file.part) (g.S.Store.files
    c.args.into.now.store.now) (g.S.Store.files c.write_into.new.store.store.now)
    (g.S.Store.reads c.args.into.now.store.now) (g.S.Store.reads c.write_into.new.store.store.now) c.write_into.ensures.wrote.reads

pub returns-clause-files : goal.returns-clause-files
returns-clause-files g c = kept-files c.args.into.now.store.ghost_name c.write_into.new.store.store.ghost_name c.args.into.now.from c.write_into.new.store.from
    c.args.into.now.looked c.write_into.new.store.looked
    (full_name c.args.into.now.file.base.now c.args.into.now.file.part) (full_name c.write_into.new.store.file.base.now c.write_into.new.store.file.part) (g.S.Store.files
    c.args.into.now.store.now) (g.S.Store.files c.write_into.new.store.store.now)
    (g.S.Store.reads c.args.into.now.store.now) (g.S.Store.reads c.write_into.new.store.store.now) c.write_into.ensures.wrote.reads

pub returns-clause-outside : goal.returns-clause-outside
returns-clause-outside g c = kept-outside c.args.into.now.store.ghost_name c.write_into.new.store.store.ghost_name c.args.into.now.from c.write_into.new.store.from
    c.args.into.now.looked c.write_into.new.store.looked
    (full_name c.args.into.now.file.base.now c.args.into.now.file.part) (full_name c.write_into.new.store.file.base.now c.write_into.new.store.file.part) (g.S.Store.files
    c.args.into.now.store.now) (g.S.Store.files c.write_into.new.store.store.now)
    (g.S.Store.reads c.args.into.now.store.now) (g.S.Store.reads c.write_into.new.store.store.now) c.write_into.ensures.wrote.reads

pub returns-clause-cause : goal.returns-clause-cause
returns-clause-cause g c = kept-cause c.args.into.now.looked c.write_into.new.store.looked _ _ c.requires.unread
    (kept-looked c.args.into.now.store.ghost_name c.write_into.new.store.store.ghost_name c.args.into.now.from c.write_into.new.store.from c.args.into.now.looked
    c.write_into.new.store.looked
    (full_name c.args.into.now.file.base.now c.args.into.now.file.part) (full_name c.write_into.new.store.file.base.now c.write_into.new.store.file.part) (g.S.Store.files
    c.args.into.now.store.now) (g.S.Store.files c.write_into.new.store.store.now)
    (g.S.Store.reads c.args.into.now.store.now) (g.S.Store.reads c.write_into.new.store.store.now) c.write_into.ensures.wrote.reads) c.write_into.ensures.cause

pub returns-clause-written : goal.returns-clause-written
returns-clause-written g c =
    written-followed c.write_into.result (g.S.Store.files c.args.into.now.store.now) (g.S.Store.files c.write_into.new.store.store.now) (full_name c.args.into.now.file.base.now
    c.args.into.now.file.part)
    (full_name c.write_into.new.store.file.base.now c.write_into.new.store.file.part) c.args.into.now.from c.write_into.new.store.from c.args.into.now.standing
    c.write_into.new.store.standing c.args.into.now.rest.now.items c.write_into.new.store.rest.now.items _
    (kept-files c.args.into.now.store.ghost_name c.write_into.new.store.store.ghost_name c.args.into.now.from c.write_into.new.store.from c.args.into.now.looked
    c.write_into.new.store.looked
    (full_name c.args.into.now.file.base.now c.args.into.now.file.part) (full_name c.write_into.new.store.file.base.now c.write_into.new.store.file.part) (g.S.Store.files
    c.args.into.now.store.now) (g.S.Store.files c.write_into.new.store.store.now)
    (g.S.Store.reads c.args.into.now.store.now) (g.S.Store.reads c.write_into.new.store.store.now) c.write_into.ensures.wrote.reads)
    (kept-name c.args.into.now.store.ghost_name c.write_into.new.store.store.ghost_name c.args.into.now.from c.write_into.new.store.from c.args.into.now.looked
    c.write_into.new.store.looked
    (full_name c.args.into.now.file.base.now c.args.into.now.file.part) (full_name c.write_into.new.store.file.base.now c.write_into.new.store.file.part) (g.S.Store.files
    c.args.into.now.store.now) (g.S.Store.files c.write_into.new.store.store.now)
    (g.S.Store.reads c.args.into.now.store.now) (g.S.Store.reads c.write_into.new.store.store.now) c.write_into.ensures.wrote.reads)
    (kept-from c.args.into.now.store.ghost_name c.write_into.new.store.store.ghost_name c.args.into.now.from c.write_into.new.store.from c.args.into.now.looked
    c.write_into.new.store.looked
    (full_name c.args.into.now.file.base.now c.args.into.now.file.part) (full_name c.write_into.new.store.file.base.now c.write_into.new.store.file.part) (g.S.Store.files
    c.args.into.now.store.now) (g.S.Store.files c.write_into.new.store.store.now)
    (g.S.Store.reads c.args.into.now.store.now) (g.S.Store.reads c.write_into.new.store.store.now) c.write_into.ensures.wrote.reads)
    c.write_into.ensures.wrote.told c.write_into.ensures.written
