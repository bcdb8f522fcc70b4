use Rattle.mg_top.proofs.top.run.Goals as goal

pub returns : goal.returns
returns g c = rw c.ended.ensures.status (c.run_words-answer.ensures _ _ c.ended.ensures.told)
