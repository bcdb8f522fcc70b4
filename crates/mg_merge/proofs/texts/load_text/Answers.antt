use Rattle.mg_merge.proofs.LookLaws.{looks_models}
use Rattle.mg_merge.proofs.texts.load_text.Goals as goal

pub returns-in-Ok-clause-looks : goal.returns-in-Ok-clause-looks
returns-in-Ok-clause-looks g c = looks_models c.load.ensures.looked

pub returns-in-Err-clause-looks : goal.returns-in-Err-clause-looks
returns-in-Err-clause-looks g c = looks_models c.load.ensures.looked
