use Rattle.std.proofs.Common.{◌+◌, ◌∙◌, ap}
use Rattle.mg_defs.specs.Generator.{stepped, draw, made_word, pick}
use Rattle.mg_gen.proofs.generator.Generator.pick.Goals as goal

pub returns-clause-word : goal.returns-clause-word
unfolding pick
returns-clause-word c =
    c.word.ensures ∙ ap made_word
    (c.draw-number.ensures.is ∙ ap (λ x. draw (c.draw-most.result + 1) x) c.draw-most.ensures.state
    ∙ ap (λ m. draw (m + 1) (stepped c.args.self.now.state)) c.draw-most.ensures.is)

pub returns-clause-state : goal.returns-clause-state
unfolding pick
returns-clause-state c = c.draw-number.ensures.state ∙ ap stepped c.draw-most.ensures.state
