use Rattle.mg_check_index.specs.InPair.{looks_in}
use Rattle.mg_check_index.proofs.PairLaws.{made-same, reads-same}
use Rattle.mg_check_index.proofs.pair_store.PairStoreStore.append.Goals as goal

pub returns-clause-reads : goal.returns-clause-reads
returns-clause-reads g c = λ p.
    reads-same _ _ (looks_in c.args.self.now.looks) p
    (made-same c.args.self.now.store.ghost_name c.args.self.now.pair.ghost_name c.args.self.now.pair.now c.append.new.self _ _ _ _
    c.append.ensures.same c.append.ensures.puts.files c.append.ensures.puts.unread)
