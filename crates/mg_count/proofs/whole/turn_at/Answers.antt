use Rattle.std.proofs.Common.{rules, ◌≡◌, ◌≢◌, false}
use Rattle.mg_defs.specs.Parse.{is_of_kind}
use Rattle.mg_count.proofs.WholePieces.{turns-at}
use Rattle.mg_count.proofs.whole.turn_at.Goals as goal

pub returns-clause-turns : goal.returns-clause-turns
returns-clause-turns c = λ is.
    let other : c.args.byte ≢ 2 = search rules in
    let ends : is_of_kind c.args.reader.now.kind c.args.byte ≡ false = search rules in
    turns-at c.args.reader.now c.turn.new.self c.offer.new.self c.args.byte c.offer.result other ends c.turn.ensures.turned c.offer.ensures.offered
