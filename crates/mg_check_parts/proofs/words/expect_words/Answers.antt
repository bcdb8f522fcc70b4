use Rattle.std.proofs.Common.{arith, ap, [], ◌<◌, length}
use Rattle.std.proofs.lemmas.List.Elements.{All-more}
use Rattle.mg_check_parts.specs.Words.{IsWord}
use Rattle.mg_check_parts.proofs.WordLaws.{all_words, word_here}
use Rattle.mg_check_parts.proofs.words.expect_words.Goals as goal

pub loop-symbol-preserved : goal.loop-symbol-preserved
loop-symbol-preserved c =
    let pieces = c.args.model.now.words.pieces in
    let low : c.loop-symbol.symbol < length c.args.model.now.words.pieces = omega (arith, c.loop-symbol-test.true, c.canon.ensures.keeps.each, ap length c.canon.ensures.lengths, c.count-symbol-end.ensures.count) in
    All-more IsWord pieces c.loop-symbol.symbol [] low c.loop-symbol.invariant
    (word_here pieces c.loop-symbol.symbol c.piece.result.now c.is_word.result c.piece.ensures.piece c.piece.ensures.short c.is_word.ensures c.if-not-is_word.false)

pub returns-clause-words : goal.returns-clause-words
returns-clause-words c =
    all_words c.args.model.now.words.pieces c.loop-symbol.symbol (omega (arith, c.canon.ensures.keeps.each, ap length c.canon.ensures.lengths, c.count-symbol-end.ensures.count, c.loop-symbol-test.false)) c.loop-symbol.invariant
