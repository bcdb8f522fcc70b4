use Rattle.std.proofs.Common.{◌≡◌, ◌+◌, refl, arith}
use Rattle.mg_defs.specs.Generator.{draw, repeated, sentence, sentences}
use Rattle.mg_gen.proofs.Making.{grew_start, grew_so_far, grew_count, drawn_first}
use Rattle.mg_gen.proofs.writer.Writer.sentences.Goals as goal

pub loop-init : goal.loop-init
loop-init c = record { made = grew_start _ _; room = omega arith }

pub loop-preserved : goal.loop-preserved
loop-preserved c = record {
  made = grew_so_far c.loop.counter c.loop.invariant.made c.sentence.ensures.made;
  room = omega arith;
}

pub returns-clause-made : goal.returns-clause-made
unfolding sentences
returns-clause-made c =
    let state = c.args.self.now.generator.state in
    let e : c.loop.counter ≡ 1 + draw 6 state = omega (arith, c.draw-count.ensures.is) in
    drawn_first c.args.self.now sentences (repeated (1 + draw 6 state) sentence) refl c.draw-count.ensures.state refl
    (grew_count sentence _ _ e c.loop.invariant.made)
