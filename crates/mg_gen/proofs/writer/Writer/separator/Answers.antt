use Rattle.std.proofs.Common.{refl, sym, ◌∙◌, ◌==◌}
use Rattle.std.specs.Prelude.{codes}
use Rattle.std.proofs.lemmas.Bool.{eq-eqb, ne_eqb, cond-true, cond-false}
use Rattle.mg_defs.specs.Generator.{draw, separator}
use Rattle.mg_gen.proofs.Making.{put_made}
use Rattle.mg_gen.proofs.writer.Writer.separator.Goals as goal

pub returns-then-draw-eq0-clause-made : goal.returns-then-draw-eq0-clause-made
unfolding separator
returns-then-draw-eq0-clause-made c =
    let state = c.args.self.now.generator.state in
    put_made c.args.self.now separator (codes ", ") refl c.draw.ensures.state
    (sym (cond-true (draw 8 state == 0) (codes ", ") (codes " ") (eq-eqb (draw 8 state) 0 (sym c.draw.ensures.is ∙ c.if-draw-eq0.true)))) c.put.ensures.made

pub returns-else-draw-eq0-clause-made : goal.returns-else-draw-eq0-clause-made
unfolding separator
returns-else-draw-eq0-clause-made c =
    let state = c.args.self.now.generator.state in
    put_made c.args.self.now separator (codes " ") refl c.draw.ensures.state
    (sym (cond-false (draw 8 state == 0) (codes ", ") (codes " ") (ne_eqb (draw 8 state) 0 (λ e. c.if-draw-eq0.false (c.draw.ensures.is ∙ e))))) c.put-else-draw-eq0.ensures.made
