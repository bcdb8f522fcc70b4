use Rattle.std.proofs.Common.{refl}
use Rattle.mg_check_index.specs.InPair.{looks_in}
use Rattle.mg_check_index.proofs.PairLaws.{made-same, reads-same}
use Rattle.mg_check_index.proofs.pair_store.PairStoreStore.reset.Goals as goal

pub returns-clause-content : goal.returns-clause-content
returns-clause-content g c = c.reset.ensures.content (g.S.Store.files c.args.self.now.store.now)

pub returns-clause-reads : goal.returns-clause-reads
returns-clause-reads g c = λ p.
    reads-same _ _ (looks_in c.args.self.now.looks) p
    (made-same c.args.self.now.store.ghost_name c.args.self.now.pair.ghost_name c.args.self.now.pair.now c.reset.new.self _ _ _ _ c.reset.ensures.same refl refl)
