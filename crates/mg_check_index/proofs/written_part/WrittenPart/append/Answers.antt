use Rattle.mg_check_index.proofs.PairLaws.{held-kept, held-more}
use Rattle.mg_check_index.proofs.written_part.WrittenPart.append.Goals as goal

pub returns-clause-more : goal.returns-clause-more
returns-clause-more g c = λ told.
    held-more c.hold.result (g.S.Store.files c.args.store.now) c.args.self.now c.settle.new.self c.hold.new.self c.args.piece.now (c.settle.ensures.bytes told)
    c.hold.ensures.standing c.hold.ensures.same c.hold.ensures.held

pub returns-clause-kept : goal.returns-clause-kept
returns-clause-kept g c = λ told.
    held-kept c.hold.result (g.S.Store.files c.args.store.now) c.args.self.now c.settle.new.self c.hold.new.self (c.settle.ensures.bytes told)
    c.hold.ensures.standing c.hold.ensures.same c.hold.ensures.kept
