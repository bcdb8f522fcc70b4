use Rattle.std.proofs.Common.{◌≡◌, ◌∙◌, refl, sym}
use Rattle.mg_dev.specs.Names.{full_name}
use Rattle.mg_check_parts.proofs.CallerLemmas.{looks_bytes}
use Rattle.mg_check_index.specs.InStore.{told_files}
use Rattle.mg_check_index.proofs.InStoreLaws.{append-held, append-standing, no-more, reads-same}
use Rattle.mg_check_index.proofs.comparing_store.ComparingStoreStore.append.Goals as goal

pub returns-then-held-gt0-clause-content : goal.returns-then-held-gt0-clause-content
returns-then-held-gt0-clause-content g c =
    let same = c.hold.ensures.same in
    let file = c.hold.ensures.file in
    let from = c.hold.ensures.from in
    let standing = c.hold.ensures.standing in
    let after : told_files (g.S.Store.files c.hold.new.self.store.now) (full_name c.hold.new.self.file.base.now c.hold.new.self.file.part) c.hold.new.self.from
    c.hold.new.self.standing c.hold.new.self.rest.now.items
    ≡ told_files (g.S.Store.files c.args.self.now.store.now) (full_name c.args.self.now.file.base.now c.args.self.now.file.part) c.args.self.now.from c.args.self.now.standing
    c.hold.new.self.rest.now.items = cc in
    append-held c.hold.result _ _ (g.S.Store.files c.args.self.now.store.now) (full_name c.args.self.now.file.base.now c.args.self.now.file.part)
    c.args.self.now.from c.args.self.now.standing c.args.self.now.rest.now.items c.hold.new.self.rest.now.items c.args.piece.now _ (c.if-not-is_own.ensures.own refl)
    refl after c.hold.ensures.held c.hold.ensures.kept

pub returns-then-count-room-clause-content : goal.returns-then-count-room-clause-content
returns-then-count-room-clause-content g c =
    let same = c.hold-then-count-room.ensures.same in
    let file = c.hold-then-count-room.ensures.file in
    let from = c.hold-then-count-room.ensures.from in
    let standing = c.hold-then-count-room.ensures.standing in
    let after : told_files (g.S.Store.files c.hold-then-count-room.new.self.store.now) (full_name c.hold-then-count-room.new.self.file.base.now
    c.hold-then-count-room.new.self.file.part) c.hold-then-count-room.new.self.from c.hold-then-count-room.new.self.standing c.hold-then-count-room.new.self.rest.now.items
    ≡ told_files (g.S.Store.files c.args.self.now.store.now) (full_name c.args.self.now.file.base.now c.args.self.now.file.part) c.args.self.now.from c.args.self.now.standing
    c.hold-then-count-room.new.self.rest.now.items = cc in
    append-held c.hold-then-count-room.result _ _ (g.S.Store.files c.args.self.now.store.now) (full_name c.args.self.now.file.base.now c.args.self.now.file.part)
    c.args.self.now.from c.args.self.now.standing c.args.self.now.rest.now.items c.hold-then-count-room.new.self.rest.now.items c.args.piece.now _ (c.if-not-is_own.ensures.own refl)
    refl after c.hold-then-count-room.ensures.held c.hold-then-count-room.ensures.kept

pub returns-in-Err-Bad-clause-content : goal.returns-in-Err-Bad-clause-content
returns-in-Err-Bad-clause-content g c =
    let same = c.hold-in-Err-Bad.ensures.same in
    let file = c.hold-in-Err-Bad.ensures.file in
    let from = c.hold-in-Err-Bad.ensures.from in
    let standing = c.hold-in-Err-Bad.ensures.standing in
    let files = c.expect_bytes.ensures.files in
    let after : told_files (g.S.Store.files c.hold-in-Err-Bad.new.self.store.now) (full_name c.hold-in-Err-Bad.new.self.file.base.now c.hold-in-Err-Bad.new.self.file.part)
    c.hold-in-Err-Bad.new.self.from c.hold-in-Err-Bad.new.self.standing c.hold-in-Err-Bad.new.self.rest.now.items
    ≡ told_files (g.S.Store.files c.args.self.now.store.now) (full_name c.args.self.now.file.base.now c.args.self.now.file.part) c.args.self.now.from c.args.self.now.standing
    c.hold-in-Err-Bad.new.self.rest.now.items = cc in
    append-held c.hold-in-Err-Bad.result _ _ (g.S.Store.files c.args.self.now.store.now) (full_name c.args.self.now.file.base.now c.args.self.now.file.part)
    c.args.self.now.from c.args.self.now.standing c.args.self.now.rest.now.items c.hold-in-Err-Bad.new.self.rest.now.items c.args.piece.now _ (c.if-not-is_own.ensures.own refl)
    refl after c.hold-in-Err-Bad.ensures.held c.hold-in-Err-Bad.ensures.kept

pub returns-in-Ok-clause-content : goal.returns-in-Ok-clause-content
returns-in-Ok-clause-content g c =
    append-standing (g.S.Store.files c.args.self.now.store.now) _ _ _ _ _ _ _ (c.if-not-is_own.ensures.own refl) c.expect_bytes.ensures.files
    (sym c.as_slice-held.ensures.value ∙ no-more c.as_slice-held.result.now c.if-held-gt0.false) c.in-Ok.ensures.answer

pub returns-in-Ok-clause-reads : goal.returns-in-Ok-clause-reads
returns-in-Ok-clause-reads g c =
    reads-same c.args.self.now.store.ghost_name c.args.self.now.from c.args.self.now.looked (full_name c.args.self.now.file.base.now c.args.self.now.file.part) (g.S.Store.files
    c.args.self.now.store.now) _ (g.S.Store.reads c.args.self.now.store.now) _ c.expect_bytes.ensures.files
    (looks_bytes c.args.self.now.file.part c.args.self.now.of_set c.expect_bytes.ensures.files c.expect_bytes.ensures.reads c.in-Ok.ensures.cause).unread

pub returns-in-Err-Device-clause-reads : goal.returns-in-Err-Device-clause-reads
returns-in-Err-Device-clause-reads g c =
    reads-same c.args.self.now.store.ghost_name c.args.self.now.from c.args.self.now.looked (full_name c.args.self.now.file.base.now c.args.self.now.file.part) (g.S.Store.files
    c.args.self.now.store.now) _ (g.S.Store.reads c.args.self.now.store.now) _ c.expect_bytes.ensures.files
    (looks_bytes c.args.self.now.file.part c.args.self.now.of_set c.expect_bytes.ensures.files c.expect_bytes.ensures.reads c.in-Err-Device.ensures.cause).unread

pub returns-in-Err-Bad-clause-reads : goal.returns-in-Err-Bad-clause-reads
returns-in-Err-Bad-clause-reads g c = λ p.
    let same = c.hold-in-Err-Bad.ensures.same in
    let file = c.hold-in-Err-Bad.ensures.file in
    let from = c.hold-in-Err-Bad.ensures.from in
    let looked = c.hold-in-Err-Bad.ensures.looked in
    let name = c.hold-in-Err-Bad.ensures.store in
    let before = reads-same c.args.self.now.store.ghost_name c.args.self.now.from c.args.self.now.looked (full_name c.args.self.now.file.base.now c.args.self.now.file.part)
    (g.S.Store.files c.args.self.now.store.now) _ (g.S.Store.reads c.args.self.now.store.now) _
    c.expect_bytes.ensures.files
    (looks_bytes c.args.self.now.file.part c.args.self.now.of_set c.expect_bytes.ensures.files c.expect_bytes.ensures.reads c.in-Err-Bad.ensures.cause).unread p in
    cc
