use Rattle.std.proofs.Common.{arith, refl}
use Rattle.mg_defs.specs.Marks.{code_of}
use Rattle.mg_text.proofs.CountLaws.{on_true_is}
use Rattle.mg_text.proofs.TallyLaws.{put_more}
use Rattle.mg_text.proofs.stream_counts.put_all.Goals as goal

pub loop-symbol-preserved : goal.loop-symbol-preserved
loop-symbol-preserved c = put_more (code_of c.args.stream c.args.model.now).pieces c.args.symbols.now c.loop-symbol.symbol _ c.piece.result.now c.args.counts.now c.loop-symbol.counts
    c.put-put.new.self c.piece.ensures.piece (omega (arith, c.loop-symbol-test.true, c.if-symbols-count.false)) refl c.loop-symbol.invariant
    (on_true_is c.put-put.result _ c.if-not-put.false c.put-put.ensures)
