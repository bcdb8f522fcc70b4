use Rattle.std.proofs.Common.{arith, ◌≤◌}
use Rattle.mg_parse.specs.Lent.{pair_of}
use Rattle.mg_check_parts.proofs.CodeLaws.{pair-of-two, put-there, where-put}
use Rattle.mg_check_parts.proofs.coded_doc.put_pair.Goals as goal

pub returns-clause-put : goal.returns-clause-put
returns-clause-put g c =
    let two : 2 ≤ c.args.writer.now.left = omega (arith, c.requires.more.1) in
    where-put c.put_piece-2.result _ _
    (λ other. pair-of-two c.args.model.now (pair_of c.args.pair) c.args.writer.now c.put_piece.new.writer c.put_piece-2.new.writer
    (g.S.Store.files c.args.store.now) (g.S.Store.files c.put_piece.new.store) (g.S.Store.files c.put_piece-2.new.store) c.args.uses.now _ two
    (put-there c.in-Ok-Some.field-0 _ _ c.in-Ok-Some.field-0-is c.in-Ok-Some.ensures.put) other)
    c.put_piece-2.ensures.put
