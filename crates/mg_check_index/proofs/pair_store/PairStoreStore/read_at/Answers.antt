use Rattle.std.proofs.Common.{length}
use Rattle.mg_check_index.specs.InPair.{looks_in}
use Rattle.mg_check_index.proofs.PairLaws.{fault-rose, nothing-there, reads-none, reads-one}
use Rattle.mg_check_index.proofs.pair_store.PairStoreStore.read_at.Goals as goal

pub returns-then-number-clause-bytes : goal.returns-then-number-clause-bytes
returns-then-number-clause-bytes g c = λ told.
    nothing-there (g.S.Store.files c.args.self.now.store.now) c.args.self.now.pair.now c.args.file.now.base.now c.args.file.now.part c.number.result c.number-2.result c.args.at (length c.args.buf.now)
    c.number.ensures.value c.number-2.ensures.value c.if-number.true

pub returns-then-number-clause-reads : goal.returns-then-number-clause-reads
returns-then-number-clause-reads g c =
    reads-none _ (looks_in c.args.self.now.looks) c.args.file.now.part c.number.result c.number-2.result c.number.ensures.value c.number-2.ensures.value c.if-number.true

pub returns-clause-reads : goal.returns-clause-reads
returns-clause-reads g c = reads-one _ (looks_in c.args.self.now.looks) (looks_in c.count_read.new.reads) c.args.file.now.part c.count_read.ensures

pub returns-clause-cause : goal.returns-clause-cause
returns-clause-cause g c =
    fault-rose _ (looks_in c.args.self.now.looks) (looks_in c.count_read.new.reads) c.args.file.now.part c.number.result c.number-2.result c.number.ensures.value c.number-2.ensures.value
    c.if-number.false c.count_read.ensures
