use Rattle.mg_dev.specs.Names.{full_name}
use Rattle.mg_check_index.proofs.PairLaws.{is-named, pair-one-put, pair-other-put}
use Rattle.mg_check_index.proofs.pair_store.WrittenPair.append.Goals as goal

pub returns-then-is_own-clause-content : goal.returns-then-is_own-clause-content
returns-then-is_own-clause-content g c =
    pair-one-put c.append.result (g.S.Store.files c.args.store.now) c.args.self.now c.append.new.self c.args.piece.now (full_name c.args.file.now.base.now c.args.file.now.part)
    (is-named _ _ c.is_own.result c.is_own.ensures c.if-is_own.true) c.append.ensures.same c.args.self.now.apart c.append.ensures.more c.append.ensures.kept

pub returns-then-is_own-2-clause-content : goal.returns-then-is_own-2-clause-content
returns-then-is_own-2-clause-content g c =
    pair-other-put c.append-then-is_own-2.result (g.S.Store.files c.args.store.now) c.args.self.now c.append-then-is_own-2.new.self c.args.piece.now
    (full_name c.args.file.now.base.now c.args.file.now.part)
    (is-named _ _ c.is_own-2.result c.is_own-2.ensures c.if-is_own-2.true) c.append-then-is_own-2.ensures.same c.append-then-is_own-2.ensures.more c.append-then-is_own-2.ensures.kept
