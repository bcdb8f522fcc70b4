use Rattle.std.proofs.Common.{◌∙◌, ap}
use Rattle.mg_defs.specs.Weights.{score_of}
use Rattle.mg_plain.proofs.ScoreLaws.{score-is}
use Rattle.mg_plain.proofs.score.document_score.Goals as goal

pub returns : goal.returns
returns c = λ collection query counted weighed. score-is collection c.args.doc.now query _ _ _ counted weighed
    (c.score.ensures ∙ ap (λ s. score_of s c.in_ok-weight.weight) c.sum_of_products.ensures.is ∙ ap (score_of _) c.in_ok-weight.ensures)
