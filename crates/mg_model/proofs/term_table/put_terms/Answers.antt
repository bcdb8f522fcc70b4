use Rattle.std.proofs.Common.{arith, ap, length, ◌∙◌}
use Rattle.mg_model.proofs.Numbering.{few-terms, terms-all, terms-more}
use Rattle.mg_model.proofs.term_table.put_terms.Goals as goal

pub push_term-requires-clause-few : goal.push_term-requires-clause-few
push_term-requires-clause-few c = omega (arith, ap length c.loop-symbol.invariant, few-terms c.args.model.now.words.pieces c.loop-symbol.symbol, c.count-words.ensures.most)

pub loop-symbol-preserved : goal.loop-symbol-preserved
loop-symbol-preserved c = terms-more c.args.model.now.words.pieces c.loop-symbol.symbol c.piece.result.now c.loop-symbol.terms c.push_term.new.terms
    c.piece.ensures.piece c.loop-symbol.invariant c.in-Ok.ensures

pub returns : goal.returns
returns c = terms-all c.args.model.now.words.pieces c.loop-symbol.symbol c.loop-symbol.terms c.shrink.new.self c.loop-symbol.invariant
    (omega (arith, c.canon.ensures.keeps.each, ap length c.canon.ensures.lengths, c.count-words.ensures.count)) (c.shrink.ensures ∙ c.sort_distinct.ensures)
