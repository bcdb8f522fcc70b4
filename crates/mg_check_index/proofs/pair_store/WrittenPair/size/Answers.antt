use Rattle.mg_dev.specs.Names.{full_name}
use Rattle.mg_check_index.proofs.PairLaws.{is-named, not-named, size-none, size-one, size-other}
use Rattle.mg_check_index.proofs.pair_store.WrittenPair.size.Goals as goal

pub returns-in-Ok-clause-answer : goal.returns-in-Ok-clause-answer
returns-in-Ok-clause-answer g c =
    size-one (g.S.Store.files c.args.store.now) c.args.self.now (full_name c.args.file.now.base.now c.args.file.now.part) c.in-Ok.size
    (is-named _ _ c.is_own.result c.is_own.ensures c.if-is_own.true) c.args.self.now.apart c.in-Ok.ensures.size

pub returns-in-Ok-size-clause-answer : goal.returns-in-Ok-size-clause-answer
returns-in-Ok-size-clause-answer g c =
    size-other (g.S.Store.files c.args.store.now) c.args.self.now (full_name c.args.file.now.base.now c.args.file.now.part) c.in-Ok-size.size
    (is-named _ _ c.is_own-2.result c.is_own-2.ensures c.if-is_own-2.true) c.in-Ok-size.ensures.size

pub returns-clause-answer : goal.returns-clause-answer
returns-clause-answer g c = λ told.
    size-none (g.S.Store.files c.args.store.now) c.args.self.now (full_name c.args.file.now.base.now c.args.file.now.part)
    (not-named _ _ c.is_own.result c.is_own.ensures c.if-is_own.false) (not-named _ _ c.is_own-2.result c.is_own-2.ensures c.if-is_own-2.false)
