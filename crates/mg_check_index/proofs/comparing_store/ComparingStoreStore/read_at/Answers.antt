use Rattle.std.proofs.Common.{arith, ◌+◌, length}
use Rattle.mg_dev.specs.Names.{full_name}
use Rattle.mg_check_index.proofs.InStoreLaws.{not-plain, reads-other, reads-plain}
use Rattle.mg_check_index.proofs.InStoreLaws.{told-nothing}
use Rattle.mg_check_index.proofs.comparing_store.ComparingStoreStore.read_at.Goals as goal

pub returns-then-number-clause-bytes : goal.returns-then-number-clause-bytes
returns-then-number-clause-bytes g c = λ told.
    told-nothing (g.S.Store.files c.args.self.now.store.now) (full_name c.args.self.now.file.base.now c.args.self.now.file.part) c.args.self.now.from c.args.self.now.standing
    c.args.self.now.rest.now.items
    (full_name c.args.file.now.base.now c.args.file.now.part) c.args.at (length c.args.buf.now)
    (not-plain c.args.file.now.base.now c.args.file.now.part c.number.result c.number-2.result c.number.ensures.value c.number-2.ensures.value c.if-number.true)

pub returns-then-number-clause-reads : goal.returns-then-number-clause-reads
returns-then-number-clause-reads g c =
    reads-other c.args.self.now.store.ghost_name c.args.self.now.from c.args.self.now.looked (full_name c.args.self.now.file.base.now c.args.self.now.file.part) (g.S.Store.files
    c.args.self.now.store.now) (g.S.Store.reads c.args.self.now.store.now)
    c.args.file.now.part c.number.result c.number-2.result c.number.ensures.value c.number-2.ensures.value c.if-number.true

pub returns-then-self-lt18446744073709551615-clause-reads : goal.returns-then-self-lt18446744073709551615-clause-reads
returns-then-self-lt18446744073709551615-clause-reads g c =
    reads-plain c.args.self.now.store.ghost_name c.args.self.now.from c.args.self.now.looked (c.args.self.now.looked + 1) (full_name c.args.self.now.file.base.now
    c.args.self.now.file.part) (g.S.Store.files c.args.self.now.store.now) (g.S.Store.reads c.args.self.now.store.now)
    c.args.file.now.part c.number.result c.number-2.result c.number.ensures.value c.number-2.ensures.value c.if-number.false
    (omega (arith, c.if-self-lt18446744073709551615.true))

pub returns-else-self-lt18446744073709551615-clause-reads : goal.returns-else-self-lt18446744073709551615-clause-reads
returns-else-self-lt18446744073709551615-clause-reads g c =
    reads-plain c.args.self.now.store.ghost_name c.args.self.now.from c.args.self.now.looked (c.args.self.now.looked) (full_name c.args.self.now.file.base.now
    c.args.self.now.file.part) (g.S.Store.files c.args.self.now.store.now) (g.S.Store.reads c.args.self.now.store.now)
    c.args.file.now.part c.number.result c.number-2.result c.number.ensures.value c.number-2.ensures.value c.if-number.false
    (omega (arith, c.if-self-lt18446744073709551615.false))
