use Rattle.std.proofs.Common.{◌≡◌, ◌∙◌, arith}
use Rattle.mg_make.proofs.MarkFronts.{open_at_piece, some_begun}
use Rattle.mg_make.proofs.PassLaws.{pass_none, pass_refused}
use Rattle.mg_make.proofs.Stopping.{other_pieces, stops_pairs, tells_more_pairs}
use Rattle.mg_make.proofs.second.SecondPassMarkWriter.piece_if.Goals as goal

pub returns-then-not-is_met : goal.returns-then-not-is_met
returns-then-not-is_met g c = rw c.if-not-is_met.true pass_none

pub other_pairs-requires-clause-begun : goal.other_pairs-requires-clause-begun
other_pairs-requires-clause-begun g c =
    let n = rw c.if-not-is_met.false at c.requires.next in
    let some = some_begun n.met _ n.collection n.front (open_at_piece n.met c.args.stream c.args.piece.now n.collection n.front) in
    omega (arith, some, n.written.doc)

pub returns-then-self-eq0 : goal.returns-then-self-eq0
returns-then-self-eq0 g c =
    let n = rw (c.if-not-is_met.false, ← c.self.view_is) at c.requires.next in
    let is_open = n.written.is_open ∙ open_at_piece n.met c.args.stream c.args.piece.now n.collection n.front in
    let none : c.self.inside.left ≡ 0 = c.if-self-eq0.true in
    let tell = rw (← c.self.view_is) at c.other_pairs.ensures.one_more in
    let told = tell none in
    rw (c.if-not-is_met.false, ← c.self.view_is)
    (pass_refused (record {
      cause = λ met collection is front. stops_pairs _ _ _ _ _ told (λ e. omega (arith, e)) (other_pieces _ _ met c.args.stream c.args.piece.now collection is front is_open none);
      tells = λ met collection is front. tells_more_pairs _ _ met c.args.stream c.args.piece.now collection _ is front is_open none told;
    }))

pub put_piece-requires-clause-next : goal.put_piece-requires-clause-next
put_piece-requires-clause-next g c = rw c.if-not-is_met.false at c.requires.next

pub returns : goal.returns
returns g c = rw c.if-not-is_met.false c.put_piece.ensures
