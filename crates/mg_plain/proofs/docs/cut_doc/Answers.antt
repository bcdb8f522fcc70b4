use Rattle.std.proofs.Common.{◌∷◌, sym, ◌∙◌, ap}
use Rattle.mg_defs.specs.Split.{documents}
use Rattle.mg_plain.proofs.DocumentLaws.{first_cut}
use Rattle.mg_plain.proofs.docs.cut_doc.Goals as goal

pub returns : goal.returns
returns c = first_cut _ _ _ _ c.requires c.doc_len.ensures.is c.split_at.ensures.front c.split_at.ensures.back ∙ ap (λ r. c.split_at.result.0.now ∷ documents r) (sym c.after_first.ensures)
