use Rattle.std.proofs.Common.{◌≡◌, ◌+◌, refl, arith, [], ◌∷◌}
use Rattle.std.specs.Prelude.{codes}
use Rattle.mg_defs.specs.Generator.{draw, made_bytes, made_in_turn, repeated, made_both, separator, pick, capital_pick, sentence}
use Rattle.mg_gen.proofs.Making.{grew_start, grew_so_far, grew_count, grew_both, grew_all, grew_none, drawn_first}
use Rattle.mg_gen.proofs.writer.Writer.sentence.Goals as goal

pub loop-init : goal.loop-init
loop-init c = record { made = grew_start _ _; room = omega arith }

pub loop-preserved : goal.loop-preserved
loop-preserved c = record {
  made = grew_so_far c.loop.counter c.loop.invariant.made (grew_both c.separator.ensures.made c.pick.ensures.made);
  room = omega arith;
}

pub returns-clause-made : goal.returns-clause-made
unfolding sentence
returns-clause-made c =
    let state = c.args.self.now.generator.state in
    let e : c.loop.counter ≡ 3 + draw 9 state = omega (arith, c.draw-more.ensures.is) in
    drawn_first c.args.self.now sentence (made_in_turn (capital_pick ∷ repeated (3 + draw 9 state) (made_both separator pick) ∷ made_bytes (codes ".\n") ∷ [])) refl c.draw-more.ensures.state refl
    (grew_all c.capital_pick.ensures.made (grew_all (grew_count (made_both separator pick) _ _ e c.loop.invariant.made) (grew_all c.put.ensures.made (grew_none _)))).made
