use Rattle.mg_dev.specs.Names.{full_name}
use Rattle.mg_check_index.proofs.PairLaws.{is-named, pair-one-reset, pair-other-reset}
use Rattle.mg_check_index.proofs.pair_store.WrittenPair.reset.Goals as goal

pub returns-then-is_own-clause-content : goal.returns-then-is_own-clause-content
returns-then-is_own-clause-content c = λ files.
    pair-one-reset files c.args.self.now c.reset.new.self (full_name c.args.file.now.base.now c.args.file.now.part)
    (is-named _ _ c.is_own.result c.is_own.ensures c.if-is_own.true) c.reset.ensures.same c.args.self.now.apart c.reset.ensures.nothing

pub returns-then-is_own-2-clause-content : goal.returns-then-is_own-2-clause-content
returns-then-is_own-2-clause-content c = λ files.
    pair-other-reset files c.args.self.now c.reset-then-is_own-2.new.self (full_name c.args.file.now.base.now c.args.file.now.part)
    (is-named _ _ c.is_own-2.result c.is_own-2.ensures c.if-is_own-2.true) c.reset-then-is_own-2.ensures.same c.reset-then-is_own-2.ensures.nothing
