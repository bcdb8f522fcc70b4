use Rattle.std.proofs.Common.{sym, ap, []}
use Rattle.mg_defs.specs.Canon.{codeword}
use Rattle.mg_defs.specs.Marks.{code_of}
use Rattle.mg_check_parts.proofs.CodeLaws.{counted-one, known-of, piece-put}
use Rattle.mg_check_parts.proofs.coded_doc.put_piece.Goals as goal

pub returns-clause-put : goal.returns-clause-put
returns-clause-put g c =
    let code = code_of c.args.of.now.stream c.args.of.now.model.now in
    let there = c.symbol_and_piece.ensures.piece (code_of c.args.of.now.stream c.args.of.now.model.now) c.in-Some.symbol c.args.piece.now (sym c.in-Some.ensures) in
    let number = c.symbol_and_piece.ensures.number (code_of c.args.of.now.stream c.args.of.now.model.now) c.in-Some.symbol c.args.piece.now (sym c.in-Some.ensures) in
    record {
      took = λ bits on. piece-put code c.args.piece.now c.in-Some.symbol c.args.writer.now _ (g.S.Store.files c.args.store.now) _ bits _
          (c.in-Ok.ensures.took [] bits on) (ap (codeword code.lengths) (sym number));
      put = c.in-Ok.ensures.numbers;
      base = c.put_piece.ensures.base;
      told = c.put_piece.ensures.told;
      known = known-of code c.args.piece.now c.in-Some.symbol there;
      counted = counted-one code c.args.piece.now c.in-Some.symbol c.args.counts.now.items c.count_use.new.counts.items c.requires.keeps there c.requires.room.size c.count_use.ensures;
    }
