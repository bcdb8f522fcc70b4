use Rattle.mg_merge.proofs.merging.write_planned.Goals as goal

pub returns : goal.returns
returns g c = record { written = rw c.without.ensures c.write_set-answer.ensures.written }
